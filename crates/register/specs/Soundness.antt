-- What every curve in force keeps.
--   Sound marks n c    n is a number that a curve can have and is not marked, and c is lawful
use Rattle.std.specs.Prelude.{◌≡◌, ℕ, Bool, false, List, slice_index_or}
use Rattle.curve.specs.Curves.{Curve, LawfulCurve}
use Rattle.rules.specs.Registers.{Number}

pub record Sound (marks : List Bool) (n : ℕ) (c : Curve) : Type 0 where
  pub number : Number n
  pub unmarked : slice_index_or marks n false ≡ false
  pub lawful : LawfulCurve c
