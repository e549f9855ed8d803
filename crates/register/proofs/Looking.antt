-- Marks and curves, and what stands.
use Rattle.std.proofs.Common.{◌≡◌, ℕ, ◌+◌, ◌<◌, ◌≤◌, min, Bool, true, false, get_or, Some, None, Option, sym, refl, ap, ◌∙◌, ap₂, MatchOption, ⊎_elim, Decides, arith}
use Rattle.std.proofs.lemmas.List.{get_or_past}
use Rattle.std.proofs.lemmas.Bool.{both_ways, cases_lt}
use Rattle.curve.specs.Curves.{Curve}
use Rattle.rules.specs.Registers.{in_force, withdrawn}
use Rattle.register.specs.declared.register.Core.{Core}
use Rattle.register.specs.Looking.{InForce, Withdrawn, Next, Lowest}
use Rattle.register.specs.Meaning.{standing_of, meaning}
use Rattle.register.specs.Places.{bears, curve_of, held, Nowhere, blank}
use Rattle.register.proofs.Held.{held_none}
use Rattle.register.proofs.Laws.{held_at}
use Rattle.register.proofs.Uses.{sound_at}

mark_of : (b : Bool) (o : Option Curve) → standing_of b o ≡ Some withdrawn → b ≡ true
mark_of true o h = refl
mark_of false None h = absurd (let z : ◌≡◌ {A = ℕ} 0 1 = cc h in omega arith)
mark_of false (Some c) h = absurd (let z : ◌≡◌ {A = ℕ} 0 1 = cc h in omega arith)

pub marked_of : (r : Core) (n : ℕ) → Withdrawn (meaning r) n → get_or r.withdrawn n false ≡ true
marked_of r n h = mark_of (get_or r.withdrawn n false) (held r.table.places n) h

pub withdrawn_of : (r : Core) (n : ℕ) → get_or r.withdrawn n false ≡ true → Withdrawn (meaning r) n
withdrawn_of r n m = ap (λ b. standing_of b (held r.table.places n)) m

pub not_past : (r : Core) (n : ℕ) → 1024 < n → Withdrawn (meaning r) n → ⊥
not_past r n l h = both_ways _ (get_or_past r.withdrawn n false (omega (arith, r.wide))) (marked_of r n h)

pub in_force_at : (r : Core) (n i : ℕ) → bears (get_or r.table.places i blank).state n ≡ true → (meaning r).standing n ≡ Some (in_force (curve_of (get_or r.table.places i blank)))
in_force_at r n i b =
    let h = held_at r.table.places i n (r.apart n) b in
    ap₂ standing_of (sound_at r n _ h).unmarked h

none_in_force : (b : Bool) (c : Curve) → standing_of b None ≡ Some (in_force c) → ⊥
none_in_force true c h = let z : ◌≡◌ {A = ℕ} 0 1 = cc h in omega arith
none_in_force false c h = let z : ◌≡◌ {A = ℕ} 0 1 = cc h in omega arith

pub not_in_force : (r : Core) (n : ℕ) → held r.table.places n ≡ None → InForce (meaning r) n → ⊥
not_in_force r n h (c, e) = none_in_force (get_or r.withdrawn n false) c (sym (ap (standing_of (get_or r.withdrawn n false)) h) ∙ e)

-- a number that is neither marked nor in force has no standing
pub no_standing : (r : Core) (n : ℕ) → get_or r.withdrawn n false ≡ false → (InForce (meaning r) n → ⊥) → (meaning r).standing n ≡ None
no_standing r n m f = go (held r.table.places n) refl
  where
    go : (o : Option Curve) → held r.table.places n ≡ o → (meaning r).standing n ≡ None
    go None e = ap₂ standing_of m e
    go (Some c) e = absurd (f (c, ap₂ standing_of m e))

pub in_force_of : (r : Core) (n : ℕ) → (Nowhere r.table.places n → ⊥) → InForce (meaning r) n
in_force_of r n f = go (held r.table.places n) refl
  where
    go : (o : Option Curve) → held r.table.places n ≡ o → InForce (meaning r) n
    go None e = absurd (f (held_none r.table.places n e))
    go (Some c) e = (c, ap₂ standing_of (sound_at r n c e).unmarked e)

pub in_force_past : (r : Core) (n : ℕ) → 1024 < n → InForce (meaning r) n → ⊥
in_force_past r n l f = go (held r.table.places n) refl
  where
    go : (o : Option Curve) → held r.table.places n ≡ o → ⊥
    go None e = not_in_force r n e f
    go (Some d) e = omega (arith, (sound_at r n d e).number.1)

-- a test that tells whether P holds finds the lowest number of which it holds, where P holds of none above 1024
pub next_of : (P : ℕ → Type 0) {T : ℕ → Bool → Type 0} {after : ℕ} {r : Option ℕ} → Lowest T after r → ((n : ℕ) (b : Bool) → T n b → Decides b (P n)) → ((n : ℕ) → 1024 < n → P n → ⊥) → Next P after r
next_of P {r = None} h tells past =
    λ n a p. ⊎_elim (λ l. both_ways false refl ((tells n false (h.is n a (omega arith))).1 p)) (λ g. past n (omega arith) p) (cases_lt n 1025)
next_of P {r = Some m} h tells past =
    (h.is.0, (tells m true h.is.1).0 refl, λ n a l p. both_ways false refl ((tells n false (h.is.2 n a l)).1 p))

-- a search from the number after `after` on finds the lowest, up to 1024
pub lowest_of : (T : ℕ → Bool → Type 0) (after start : ℕ) → start ≡ min (after + 1) 65535 → (r : Option ℕ)
    → MatchOption r ((k : ℕ) → start ≤ k → k < 1025 → T k false) (λ i. (start ≤ i) × (i < 1025) × T i true × ((k : ℕ) → start ≤ k → k < i → T k false))
    → Lowest T after r
lowest_of T after start e None h = record { is = λ n a l. h n (omega arith) (omega arith) }
lowest_of T after start e (Some m) h = record { is = (omega arith, h.2, λ n a l. h.3 n (omega arith) l) }
