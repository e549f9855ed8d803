-- The curves in force are as many as the places that are not free; and a register's meaning is lawful.
use Rattle.std.proofs.Common.{◌≡◌, ℕ, zero, suc, ◌+◌, ◌<◌, ◌≤◌, Bool, true, false, eqb, ◌⊎◌, List, [], ◌∷◌, length, get_or, take, is_some, Some, None, Option, sym, refl, ap, ◌∙◌, subst, inl, inr, ⊎_elim, arith}
use mathlib.Core.Logic.{∥∥₁_elim}
use mathlib.Core.HLevel.{⊥_prop}
use native.Mathlib.Decide.{dec_le}
use Rattle.std.proofs.lemmas.List.{get_or_past}
use Rattle.std.proofs.lemmas.Bool.{cases_Bool, eqb-true, eq-eqb, both_ways}
use Rattle.curve.specs.Curves.{Curve, LawfulCurve, Makes}
use Rattle.curve.proofs.Deciding.{decide_lawful}
use Rattle.rules.specs.Registers.{Number, one_if, tally, is_curve, places_in_use, Lawful, in_force}
use Rattle.rules.proofs.Counting.{tally_split}
use Rattle.rules.proofs.Tallies.{tally-none}
use Rattle.register.specs.declared.place.Place.{Place}
use Rattle.register.specs.declared.place.PlaceState.{PlaceState}
use Rattle.register.specs.declared.place.PlaceState.TheVariants.{Free, InForce}
use Rattle.register.specs.declared.register.Core.{Core}
use Rattle.register.specs.Meaning.{standing_of, meaning}
use Rattle.register.specs.Places.{bears, is_free_place, held, NoneFree, blank, once}
use Rattle.register.specs.Soundness.{Sound}
use Rattle.register.proofs.Laws.{held_at}
use Rattle.register.proofs.Changes.{once_tail, once_rest, once-none}

abbrev load : PlaceState → ℕ
load Free = 0
load (InForce m) = 1

abbrev busy : List Place → ℕ
busy [] = 0
busy (p ∷ ps) = load p.state + busy ps

-- one number is met once
met : (m n : ℕ) → (n < m → tally (eqb m) n ≡ 0) × (1 ≤ m → m ≤ n → tally (eqb m) n ≡ 1)
unfolding tally
met m zero = ((λ h. refl), (λ l h. absurd (omega arith)))
met m (suc n) =
    let a = met m n in
    ⊎_elim
    (λ t. let e = eqb-true m (suc n) t in let o : one_if (eqb m (suc n)) ≡ 1 = ap one_if t in let b = a.0 (omega arith) in ((λ h. absurd (omega arith)), (λ l h. omega arith)))
    (λ f. let o : one_if (eqb m (suc n)) ≡ 0 = ap one_if f in ((λ h. let b = a.0 (omega arith) in omega arith), (λ l h. let ne : m ≡ suc n → ⊥ = (λ q. both_ways _ f (eq-eqb m (suc n) q)) in let b = a.1 l (omega arith) in omega arith)))
    (cases_Bool (eqb m (suc n)))

one_of : (p : Place) (ps : List Place) (n : ℕ) → once (p ∷ ps) n ≡ true → one_if (is_some (held (p ∷ ps) n)) ≡ one_if (bears p.state n) + one_if (is_some (held ps n))
one_of p ps n o =
    ⊎_elim
    (λ t. let e = once_tail p ps n t o in rw (t, e))
    (λ f. rw f (omega arith))
    (cases_Bool (bears p.state n))

once_rests : (p : Place) (ps : List Place) (n : ℕ) → once (p ∷ ps) n ≡ true → once ps n ≡ true
once_rests p ps n o = ⊎_elim (λ t. once-none ps n (once_tail p ps n t o)) (λ f. once_rest p ps n f o) (cases_Bool (bears p.state n))

some_rests : (p : Place) (ps : List Place) (n : ℕ) → is_some (held ps n) ≡ true → is_some (held (p ∷ ps) n) ≡ true
some_rests p ps n h = ⊎_elim (λ t. rw t) (λ f. rw f h) (cases_Bool (bears p.state n))

bears_load : (s : PlaceState) → ((n : ℕ) → bears s n ≡ true → Number n) → tally (bears s) 1024 ≡ load s
bears_load Free h = tally-none 1024
bears_load (InForce m) h = let b = h m (eq-eqb m m refl) in (met m 1024).1 b.0 b.1

some-head : (p : Place) (ps : List Place) (n : ℕ) → bears p.state n ≡ true → is_some (held (p ∷ ps) n) ≡ true
some-head p ps n t = rw t

busy_is : (ps : List Place) → ((n : ℕ) → once ps n ≡ true) → ((n : ℕ) → is_some (held ps n) ≡ true → Number n) → tally (λ n. is_some (held ps n)) 1024 ≡ busy ps
busy_is [] o h = tally-none 1024
busy_is (p ∷ ps) o h =
    let a = tally_split (λ n. is_some (held (p ∷ ps) n)) (bears p.state) (λ n. is_some (held ps n)) (λ n. one_of p ps n (o n)) 1024 in
    let b = bears_load p.state (λ n t. h n (some-head p ps n t)) in
    let c = busy_is ps (λ n. once_rests p ps n (o n)) (λ n t. h n (some_rests p ps n t)) in omega arith

-- ---- what is in force is sound

-- it can be decided, so it need not be hidden
pub sound_of : (marks : List Bool) (n : ℕ) (c : Curve) → ∥ Sound marks n c ∥₁ → Sound marks n c
sound_of marks n c h = go (dec_le 1 n) (dec_le n 1024) (cases_Bool (get_or marks n false)) (decide_lawful c)
  where
    out : (Sound marks n c → ⊥) → Sound marks n c
    out f = absurd (∥∥₁_elim h ⊥_prop f)

    go : Dec (1 ≤ n) → Dec (n ≤ 1024) → (get_or marks n false ≡ true) ⊎ (get_or marks n false ≡ false) → Dec (LawfulCurve c) → Sound marks n c
    go (no a) b m l = out (λ s. a s.number.0)
    go (yes a) (no b) m l = out (λ s. b s.number.1)
    go (yes a) (yes b) (inl t) l = out (λ s. both_ways _ s.unmarked t)
    go (yes a) (yes b) (inr f) (no l) = out (λ s. l s.lawful)
    go (yes a) (yes b) (inr f) (yes l) = record { number = (a, b); unmarked = f; lawful = l }

pub sound_at : (r : Core) (n : ℕ) (c : Curve) → held r.table.places n ≡ Some c → Sound r.withdrawn n c
sound_at r n c e = sound_of r.withdrawn n c (r.lawful n c e)

-- the arrays of a place in force make a lawful curve
pub makes_at : (r : Core) (n i : ℕ) → bears (get_or r.table.places i blank).state n ≡ true → Makes (take (get_or r.table.places i blank).count (get_or r.table.places i blank).stages) (take (get_or r.table.places i blank).count (get_or r.table.places i blank).flows)
makes_at r n i b = (let p = get_or r.table.places i blank in p.stages_enough ∙ sym p.flows_enough, (sound_at r n _ (held_at r.table.places i n (r.apart n) b)).lawful)

some_curve : (r : Core) (n : ℕ) (o : Option Curve) → held r.table.places n ≡ o → is_some o ≡ true → Number n
some_curve r n None e s = absurd (both_ways false refl s)
some_curve r n (Some c) e s = (sound_at r n c e).number

-- where a curve is in force there is no mark, so that the places alone tell
curve_there : (r : Core) (n : ℕ) (b : Bool) (o : Option Curve) → get_or r.withdrawn n false ≡ b → held r.table.places n ≡ o → is_curve (standing_of b o) ≡ is_some o
curve_there r n true None m e = refl
curve_there r n true (Some c) m e = absurd (both_ways _ (sound_at r n c e).unmarked m)
curve_there r n false None m e = refl
curve_there r n false (Some c) m e = refl

tally_same : (f g : ℕ → Bool) → ((n : ℕ) → f n ≡ g n) → (m : ℕ) → tally f m ≡ tally g m
unfolding tally
tally_same f g h zero = refl
tally_same f g h (suc m) = omega (arith, tally_same f g h m, ap one_if (h (suc m)))

pub uses : (r : Core) → places_in_use (meaning r).standing ≡ busy r.table.places
uses r =
    tally_same (λ n. is_curve ((meaning r).standing n)) (λ n. is_some (held r.table.places n)) (λ n. curve_there r n (get_or r.withdrawn n false) (held r.table.places n) refl refl) 1024
    ∙ busy_is r.table.places r.apart (λ n. some_curve r n (held r.table.places n) refl)

-- ---- room

busy_most : (ps : List Place) → busy ps ≤ length ps
busy_most [] = omega arith
busy_most (p ∷ ps) = let h = busy_most ps in go p.state h
  where
    go : (s : PlaceState) → busy ps ≤ length ps → load s + busy ps ≤ suc (length ps)
    go Free h = omega arith
    go (InForce m) h = omega arith

-- where no place is free, all are in use
busy_full : (ps : List Place) → ((i : ℕ) → i < length ps → is_free_place (get_or ps i blank).state ≡ false) → busy ps ≡ length ps
busy_full [] h = refl
busy_full (p ∷ ps) h = go p.state (h 0 (omega arith)) (busy_full ps (λ i l. h (suc i) (omega arith)))
  where
    go : (s : PlaceState) → is_free_place s ≡ false → busy ps ≡ length ps → load s + busy ps ≡ suc (length ps)
    go Free k ih = absurd (both_ways true k refl)
    go (InForce m) k ih = omega (arith, ih)

busy_room : (ps : List Place) (i : ℕ) → i < length ps → is_free_place (get_or ps i blank).state ≡ true → busy ps < length ps
busy_room [] i h f = absurd (omega arith)
busy_room (p ∷ ps) zero h f = let m = busy_most ps in go p.state f m
  where
    go : (s : PlaceState) → is_free_place s ≡ true → busy ps ≤ length ps → load s + busy ps < suc (length ps)
    go Free k m = omega arith
    go (InForce j) k m = absurd (both_ways false refl k)
busy_room (p ∷ ps) (suc i) h f = let m = busy_room ps i (omega arith) f in go p.state m
  where
    go : (s : PlaceState) → busy ps < length ps → load s + busy ps < suc (length ps)
    go Free k = omega arith
    go (InForce j) k = omega arith

pub full : (r : Core) → NoneFree r.table.places → 32 ≤ places_in_use (meaning r).standing
full r h = omega (arith, uses r, busy_full r.table.places (λ i l. h i (omega (arith, r.long))), r.long)

pub room : (r : Core) (i : ℕ) → i < 32 → is_free_place (get_or r.table.places i blank).state ≡ true → places_in_use (meaning r).standing < 32
room r i l f = omega (arith, uses r, busy_room r.table.places i (omega (arith, l, r.long)) f, r.long)

-- ---- every register is lawful

-- a mark beyond the last number, or at 0, cannot be
unmarked_outside : (r : Core) (n : ℕ) → (Number n → ⊥) → get_or r.withdrawn n false ≡ false
unmarked_outside r n o = go (dec_le 1 n) (dec_le n 1024) (cases_Bool (get_or r.withdrawn n false))
  where
    go : Dec (1 ≤ n) → Dec (n ≤ 1024) → (get_or r.withdrawn n false ≡ true) ⊎ (get_or r.withdrawn n false ≡ false) → get_or r.withdrawn n false ≡ false
    go (yes a) (yes b) d = absurd (o (a, b))
    go (no a) b (inl t) = absurd (a (r.marks n t))
    go (no a) b (inr f) = f
    go (yes a) (no b) d = get_or_past r.withdrawn n false (omega (arith, r.wide, b))

nothing_outside : (r : Core) (n : ℕ) → (Number n → ⊥) → held r.table.places n ≡ None
nothing_outside r n o = go (held r.table.places n) refl
  where
    go : (x : Option Curve) → held r.table.places n ≡ x → x ≡ None
    go None e = refl
    go (Some c) e = absurd (o (sound_at r n c e).number)

lawful_curve_at : (r : Core) (n : ℕ) (c : Curve) (b : Bool) (x : Option Curve) → held r.table.places n ≡ x → standing_of b x ≡ Some (in_force c) → LawfulCurve c
lawful_curve_at r n c true x e h = absurd (let z : ◌≡◌ {A = ℕ} 0 1 = cc h in omega arith)
lawful_curve_at r n c false None e h = absurd (let z : ◌≡◌ {A = ℕ} 0 1 = cc h in omega arith)
lawful_curve_at r n c false (Some d) e h = let q : d ≡ c = cc h in subst LawfulCurve q (sound_at r n d e).lawful

pub meaning_lawful : (r : Core) → r.station ≤ 65535 → Lawful (meaning r)
meaning_lawful r s = record {
  station_fits = s;
  serial_fits = r.counted;
  outside = λ n o. (let a = unmarked_outside r n o in let b = nothing_outside r n o in rw (a, b));
  curves = λ n c e. lawful_curve_at r n c (get_or r.withdrawn n false) (held r.table.places n) refl e;
  places = omega (arith, uses r, busy_most r.table.places, r.long);
}
