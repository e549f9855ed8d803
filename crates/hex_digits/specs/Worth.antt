-- What the reader of digits goes by.
--   IsDigit c       c is the digit of some number
--   NoDigit c       c is the digit of no number
--   NoByte ds       no byte is spelled ds
--   IsByte ds       some byte is spelled ds
--   AllBytes ps     each of ps is a byte's two digits
--   SomeOther ps    some place of ps holds no byte's digits
use Rattle.std.specs.Prelude.{◌≡◌, ℕ, ◌<◌, List, [], ◌∷◌, length, ◌≢◌}
use Rattle.std.specs.List.{AllWithin, HoldsAt}
use Rattle.hex_digits.specs.Digits.{digit_of, spelled}

abbrev pub IsDigit : ℕ → Type 0
IsDigit c = (d : ℕ) × (d < 16) × (digit_of d ≡ c)

abbrev pub NoDigit : ℕ → Type 0
NoDigit c = (d : ℕ) → d < 16 → digit_of d ≢ c

abbrev pub NoByte : List ℕ → Type 0
NoByte ds = (b : ℕ) → b < 256 → spelled (b ∷ []) ≢ ds

abbrev pub IsByte : List ℕ → Type 0
IsByte ds = (b : ℕ) × (b < 256) × (spelled (b ∷ []) ≡ ds)

abbrev pub AllBytes : List (List ℕ) → Type 0
AllBytes ps = AllWithin IsByte ps 0 (length ps)

abbrev pub SomeOther : List (List ℕ) → Type 0
SomeOther ps = (k : ℕ) × (k < length ps) × HoldsAt NoByte ps k
