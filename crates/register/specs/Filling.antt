-- What a conversion by a curve answers and writes.
--   Within ss st           each of the stages st lies from the first of ss to the last
--   Filled ss qs st room lent r    all are converted, or 7 and the list is as it was
use Rattle.std.specs.Prelude.{◌≡◌, ℕ, ◌-◌, ◌<◌, List, length, ℤ, pos, ◌≤ℤ◌, Ok, Err, Result, slice_index_or}
use Rattle.refusal.specs.declared.Refusal.{Refusal}
use Rattle.refusal.specs.Refusals.{number_of}
use Rattle.curve.specs.Curves.{points}
use Rattle.rules.specs.Calls.{Flows}

abbrev pub Within : List ℤ → List ℤ → Type 0
Within ss st = (k : ℕ) → k < length st → (slice_index_or ss 0 (pos 0) ≤ℤ slice_index_or st k (pos 0)) × (slice_index_or st k (pos 0) ≤ℤ slice_index_or ss (length ss - 1) (pos 0))

abbrev pub Filled : List ℤ → List ℕ → List ℤ → List ℕ → List ℕ → Result (Unit {0}) Refusal → Type 0
Filled ss qs st room lent (Ok u) = Within ss st × Flows (points ss qs) st room lent
Filled ss qs st room lent (Err e) = (number_of e ≡ 7) × (Within ss st → ⊥) × (lent ≡ room)
