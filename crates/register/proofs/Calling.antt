-- What the calls come to, by number.
use Rattle.std.proofs.Common.{◌≡◌, ℕ, ◌<◌, ◌≤◌, Bool, true, false, cond, eqb, List, length, get_or, take, set, ℤ, Some, None, Ok, Err, Option, Result, refl, ap, ◌∙◌, ap₂, arith}
use mathlib.Core.Path.{fun_ext}
use native.Mathlib.Decide.{ℕ_discrete}
use Rattle.std.proofs.lemmas.List.{get_or-set_same, get_or-set_other}
use Rattle.std.proofs.lemmas.Bool.{eq-eqb, ne_eqb}
use Rattle.std.specs.Prelude.{IsErrAnd}
use Rattle.std.specs.Option.{ok_or}
use Rattle.std.proofs.lemmas.Result.{err_from_is_err_and}
use Rattle.refusal.specs.declared.Refusal.{Refusal}
use Rattle.cipher.specs.declared.block.Block.{Block}
use Rattle.curve.specs.Curves.{Curve, points, Makes}
use Rattle.rules.specs.Registers.{Number, State, put, in_force, withdrawn}
use Rattle.rules.specs.Calls.{Call, Answer, Publish, Withdraw, Convert, Does, refused, accepted, published, marked, convert_7, converted}
use Rattle.rules.proofs.Extends.{every_call}
use Rattle.register.specs.declared.place.Place.{Place}
use Rattle.register.specs.declared.register.Core.{Core}
use Rattle.register.specs.Causes.{Publishable}
use Rattle.register.specs.Filling.{Filled}
use Rattle.register.specs.Meaning.{standing_of, standing_at, meaning, answer_of, Occupied, Carries}
use Rattle.register.specs.Places.{curve_of, held, Nowhere}
use Rattle.register.specs.declared.place.PlaceState.TheVariants.{InForce}
use Rattle.register.proofs.Filling.{within_covered, covered_within}
use Rattle.register.proofs.Held.{nowhere_held}
use Rattle.register.proofs.Laws.{placed_here, placed_others}
use Rattle.register.proofs.Uses.{room}

-- ---- a call carries every run on

pub carries : (s : State) (q : Call) (a : Answer) (lent : List ℕ) (t : State) → ((E1 E2 : Block → Block) → Does E1 E2 s q a lent t) → Carries s q a lent t
carries s q a lent t does E1 D1 E2 D2 k l = every_call E1 D1 E2 D2 k l s q a lent t (does E1 E2)

-- a refusal that is passed on is the same
pub err_is : {T E : Type 0} (r : Result T E) (e : E) → IsErrAnd r (λ y. y ≡ e) → r ≡ Err e
err_is r e h = let p = err_from_is_err_and r h in p.1 ∙ ap Err p.2

-- what `ok_or` refuses was not there
pub refused_by : {T E : Type 0} (o : Option T) (r : Result T E) (e y : E) → r ≡ ok_or o e → r ≡ Err y → (o ≡ None) × (y ≡ e)
refused_by None r e y a b = (refl, cc (a, b))
refused_by (Some x) r e y a b = absurd (let z : ◌≡◌ {A = ℕ} 0 1 = cc (a, b) in omega arith)

-- ---- what stands

-- the curve in the arrays of a place
pub drawn_so : (p : Place) (ss : List ℤ) (qs : List ℕ) → take p.count p.stages ≡ ss → take p.count p.flows ≡ qs → curve_of p ≡ points ss qs
drawn_so p ss qs a b = ap₂ points a b

pub stands_so : (r : Core) (n : ℕ) (o : Option Curve) → get_or r.withdrawn n false ≡ false → held r.table.places n ≡ o → (meaning r).standing n ≡ standing_of false o
stands_so r n o m h = ap₂ standing_of m h

-- where no place has the number, none is in force with it
pub nowhere : (r : Core) (n : ℕ) → Nowhere r.table.places n → held r.table.places n ≡ None
nowhere r n h = nowhere_held r.table.places n r.long h

-- ---- publish

-- one number of the standings changes
standing-put : (marks : List Bool) (ps qs : List Place) (n : ℕ) (c : Curve) → get_or marks n false ≡ false → held qs n ≡ Some c → ((m : ℕ) → (m ≡ n → ⊥) → held qs m ≡ held ps m)
    → (m : ℕ) → standing_at marks qs m ≡ cond (eqb m n) (Some (in_force c)) (standing_at marks ps m)
standing-put marks ps qs n c u h o m = go (ℕ_discrete m n)
  where
    go : Dec (m ≡ n) → standing_at marks qs m ≡ cond (eqb m n) (Some (in_force c)) (standing_at marks ps m)
    go (yes e) =
        let t = eq-eqb m n e in
        let here : standing_at marks qs m ≡ Some (in_force c) = ap (standing_at marks qs) e ∙ ap₂ standing_of u h in
        rw t here
    go (no d) = let f = ne_eqb m n d in let same : standing_at marks qs m ≡ standing_at marks ps m = ap (standing_of (get_or marks m false)) (o m d) in rw f same

-- a register whose places are now these
abbrev places_now : Core → List Bool → List Place → State
places_now r marks ps = record { station = r.station; serial = r.serial; standing = standing_at marks ps }

module _ (r : Core) (n : ℕ) (ss : List ℤ) (qs : List ℕ) (i : ℕ) (p : Place) (ps : List Place) (a : Publishable r n ss qs i) (e : ps ≡ set r.table.places i p) (own : p.state ≡ InForce n) (drawn : curve_of p ≡ points ss qs) where
  within : i < length r.table.places
  within = omega (arith, r.long, a.3)

  here : held ps n ≡ Some (points ss qs)
  here = ap (λ l. held l n) e ∙ placed_here r.table.places i n p a.4 (nowhere r n a.2) own within ∙ ap Some drawn

  others : (m : ℕ) → (m ≡ n → ⊥) → held ps m ≡ held r.table.places m
  others m d = ap (λ l. held l m) e ∙ placed_others r.table.places i n p a.4 (nowhere r n a.2) own m d

  after : places_now r r.withdrawn ps ≡ put n (in_force (points ss qs)) (meaning r)
  after =
      let f = fun_ext (standing-put r.withdrawn r.table.places ps n (points ss qs) a.0.1 here others) in
      λ j. record { station = r.station; serial = r.serial; standing = f j }

  pub publish_done : Publish n ss qs (meaning r) accepted (places_now r r.withdrawn ps)
  publish_done = published a.0.0 (stands_so r n None a.0.1 (nowhere r n a.2)) a.1 (room r i a.3 a.4) refl after

  pub occupied : Occupied r.table.places ps n (points ss qs)
  occupied = record { spot = i; place = p; there = a.3; was_free = a.4; now_in_force = own; curve = drawn; others = e }

-- ---- withdraw

standing_mark : (marks : List Bool) (ps qs : List Place) (n : ℕ) → n < length marks → ((m : ℕ) → (m ≡ n → ⊥) → held qs m ≡ held ps m)
    → (m : ℕ) → standing_at (set marks n true) qs m ≡ cond (eqb m n) (Some withdrawn) (standing_at marks ps m)
standing_mark marks ps qs n l o m = go (ℕ_discrete m n)
  where
    go : Dec (m ≡ n) → standing_at (set marks n true) qs m ≡ cond (eqb m n) (Some withdrawn) (standing_at marks ps m)
    go (yes e) =
        let t = eq-eqb m n e in
        let mark : get_or (set marks n true) m false ≡ true = ap (λ k. get_or (set marks n true) k false) e ∙ get_or-set_same marks n true false l in
        let here : standing_at (set marks n true) qs m ≡ Some withdrawn = ap (λ b. standing_of b (held qs m)) mark in
        rw t here
    go (no d) =
        let f = ne_eqb m n d in
        let same : standing_at (set marks n true) qs m ≡ standing_at marks ps m = ap₂ standing_of (get_or-set_other marks n m true false d) (o m d) in
        rw f same

pub withdraw_done : (r : Core) (n : ℕ) (ps : List Place) (marks : List Bool) → marks ≡ set r.withdrawn n true → Number n → ((m : ℕ) → (m ≡ n → ⊥) → held ps m ≡ held r.table.places m) → Withdraw n (meaning r) accepted (places_now r marks ps)
withdraw_done r n ps marks e i o =
    let f = ap (λ x. standing_at x ps) e ∙ fun_ext (standing_mark r.withdrawn r.table.places ps n (omega (arith, r.wide, i.1)) o) in
    marked i refl (λ j. record { station = r.station; serial = r.serial; standing = f j })

-- ---- convert

pub convert_filled : (r : Core) (n : ℕ) (ss : List ℤ) (qs : List ℕ) (st : List ℤ) (room lent : List ℕ) → Makes ss qs → Number n → (meaning r).standing n ≡ Some (in_force (points ss qs)) → length st ≤ length room
    → (a : Result (Unit {0}) Refusal) → Filled ss qs st room lent a → Convert n st room (meaning r) (answer_of a) lent
convert_filled r n ss qs st room lent m i h l (Ok u) (all, f) = converted (points ss qs) i h l (within_covered ss qs m st all) refl f
convert_filled r n ss qs st room lent m i h l (Err e) (k, off, same) = convert_7 (points ss qs) i h l (λ a. off (covered_within ss qs m st a)) (ap refused k) same
