-- A register, seen by number: which place a curve lies in is hidden.
--   Number n           a number that a curve can have, 1 to 1,024
--   Standing           what may be known of a number: a curve in force, or that it is withdrawn
--   State              station, serial, and for each number its standing, if it has one
--   count p            how many numbers from 1 to 1,024 pass the test p
--   places_in_use f    how many curves are in force
--   Lawful s           what every register keeps
--   new_state station  a new register: no curve, no mark, serial 0
--   put n x s          s, but for the standing of the number n
use Rattle.std.specs.Prelude.{◌≡◌, ℕ, zero, suc, ◌+◌, ◌≤◌, Bool, true, false, cond, Some, None, Option, ◌==◌}
use Rattle.curve.specs.Curves.{Curve, LawfulCurve}

abbrev pub Number : ℕ → Type 0
Number n = (1 ≤ n) × (n ≤ 1024)

-- one or the other, so that no marked number is in force
pub data Standing : Type 0 where
  in_force : (c : Curve) → Standing
  withdrawn : Standing

-- the serial counts accepted seals
pub record State : Type 0 where
  pub station : ℕ
  pub serial : ℕ
  pub standing : ℕ → Option Standing

abbrev pub one_if : Bool → ℕ
one_if true = 1
one_if false = 0

-- how many numbers from 1 to n pass the test
unfoldable pub tally : (ℕ → Bool) → ℕ → ℕ
tally p zero = 0
tally p (suc n) = tally p n + one_if (p (suc n))

abbrev pub count : (ℕ → Bool) → ℕ
count p = tally p 1024

abbrev pub is_curve : Option Standing → Bool
is_curve None = false
is_curve (Some (in_force c)) = true
is_curve (Some withdrawn) = false

abbrev pub places_in_use : (ℕ → Option Standing) → ℕ
places_in_use f = count (λ n. is_curve (f n))

pub record Lawful (s : State) : Type 0 where
  pub station_fits : s.station ≤ 65535
  pub serial_fits : s.serial ≤ 65535
  pub outside : (n : ℕ) → (Number n → ⊥) → s.standing n ≡ None
  pub curves : (n : ℕ) (c : Curve) → s.standing n ≡ Some (in_force c) → LawfulCurve c
  pub places : places_in_use s.standing ≤ 32

abbrev pub new_state : ℕ → State
new_state station = record { station = station; serial = 0; standing = λ _. None }

abbrev pub put : ℕ → Standing → State → State
put n x s = record { station = s.station; serial = s.serial; standing = λ m. cond (m == n) (Some x) (s.standing m) }
