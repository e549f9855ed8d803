-- Curve K: that it is lawful, its flows, and what lies off it.
use Rattle.std.proofs.Common.{ℕ, zero, suc, ◌+◌, ◌<◌, ◌≤◌, [], ◌∷◌, pos, negsuc, ◌<ℤ◌, refl, arith}
use Rattle.std.proofs.lemmas.Int.{ints}
use Rattle.cipher.specs.declared.block.Block.{Block}
use Rattle.curve.specs.Curves.{point, InRange, LawfulCurve, above, FlowAt}
use Rattle.rules.specs.Calls.{AllCovered, Does, convert, refused, convert_7}
use Rattle.worked.specs.Season.{curve_k, upper_published}

in_range : (k : ℕ) → k < 3 → InRange (point curve_k k).stage (point curve_k k).flow
in_range zero h = (omega (arith, ints), omega (arith, ints), omega arith)
in_range (suc zero) h = (omega (arith, ints), omega (arith, ints), omega arith)
in_range (suc (suc zero)) h = (omega (arith, ints), omega (arith, ints), omega arith)
in_range (suc (suc (suc k))) h = absurd (omega arith)

rises : (k : ℕ) → k + 1 < 3 → (point curve_k k).stage <ℤ (point curve_k (k + 1)).stage
rises zero h = omega (arith, ints)
rises (suc zero) h = omega (arith, ints)
rises (suc (suc k)) h = absurd (omega arith)

never_falls : (k : ℕ) → k + 1 < 3 → (point curve_k k).flow ≤ (point curve_k (k + 1)).flow
never_falls zero h = omega arith
never_falls (suc zero) h = omega arith
never_falls (suc (suc k)) h = absurd (omega arith)

pub k_is_lawful : LawfulCurve curve_k
k_is_lawful = record { least = omega arith; most = omega arith; in_range = in_range; rises = rises; never_falls = never_falls }

pub k_at_100 : FlowAt curve_k (pos 100) 3500
unfolding above
k_at_100 = (1, record { neighbour = omega arith; from = omega (arith, ints); to = omega (arith, ints) }, refl)

pub k_at_minus_50 : FlowAt curve_k (negsuc 49) 1125
unfolding above
k_at_minus_50 = (0, record { neighbour = omega arith; from = omega (arith, ints); to = omega (arith, ints) }, refl)

pub k_at_minus_1 : FlowAt curve_k (negsuc 0) 1492
unfolding above
k_at_minus_1 = (0, record { neighbour = omega arith; from = omega (arith, ints); to = omega (arith, ints) }, refl)

pub k_at_400 : FlowAt curve_k (pos 400) 9500
unfolding above
k_at_400 = (1, record { neighbour = omega arith; from = omega (arith, ints); to = omega (arith, ints) }, refl)

off_above : AllCovered curve_k (pos 401 ∷ []) → ⊥
off_above h = let c = h 0 (omega arith) in omega (arith, ints, c.1)

off_below : AllCovered curve_k (negsuc 200 ∷ []) → ⊥
off_below h = let c = h 0 (omega arith) in omega (arith, ints, c.0)

pub k_at_401 : (E1 E2 : Block → Block) → Does E1 E2 upper_published (convert 5 (pos 401 ∷ []) (0 ∷ [])) (refused 7) (0 ∷ []) upper_published
k_at_401 E1 E2 = (convert_7 curve_k (omega arith, omega arith) refl (omega arith) off_above refl refl, refl)

pub k_at_minus_201 : (E1 E2 : Block → Block) → Does E1 E2 upper_published (convert 5 (negsuc 200 ∷ []) (0 ∷ [])) (refused 7) (0 ∷ []) upper_published
k_at_minus_201 E1 E2 = (convert_7 curve_k (omega arith, omega arith) refl (omega arith) off_below refl refl, refl)
