-- Looking things up.
--   InForce s n       a curve is in force with the number n
--   Withdrawn s n     the number n is withdrawn
--   Next P after r    r is the lowest number above `after` of which P holds, or none where there is none
--   Lowest T after r  the same of a test T of the numbers up to 1024, which says what it answers
use Rattle.std.specs.Prelude.{◌≡◌, ℕ, ◌<◌, ◌≤◌, Bool, true, false, Some, Option, MatchOption}
use Rattle.curve.specs.Curves.{Curve}
use Rattle.rules.specs.Registers.{State, in_force, withdrawn}

abbrev pub InForce : State → ℕ → Type 0
InForce s n = (c : Curve) × (s.standing n ≡ Some (in_force c))

abbrev pub Withdrawn : State → ℕ → Type 0
Withdrawn s n = s.standing n ≡ Some withdrawn

abbrev pub Next : (ℕ → Type 0) → ℕ → Option ℕ → Type 0
Next P after r = MatchOption r ((n : ℕ) → after < n → P n → ⊥) (λ m. (after < m) × P m × ((n : ℕ) → after < n → n < m → P n → ⊥))

pub record Lowest (T : ℕ → Bool → Type 0) (after : ℕ) (r : Option ℕ) : Type 0 where
  pub is : MatchOption r ((n : ℕ) → after < n → n ≤ 1024 → T n false) (λ m. (after < m) × T m true × ((n : ℕ) → after < n → n < m → T n false))
