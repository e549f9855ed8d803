-- The modes by name and code.
--   called m     the name of a mode, and its code
--   Unnamed n    no mode has the name n
use Rattle.std.specs.Prelude.{ℕ, List, codes, ◌≢◌}
use Rattle.modes.specs.declared.mode.Mode.{Mode}
use Rattle.modes.specs.declared.mode.Mode.TheVariants.{Ecb, Cbc, Cfb, Ofb}

abbrev pub called : Mode → List ℕ × ℕ
called Ecb = (codes "ECB", 1)
called Cbc = (codes "CBC", 2)
called Cfb = (codes "CFB", 3)
called Ofb = (codes "OFB", 4)

abbrev pub Unnamed : List ℕ → Type 0
Unnamed n = (m : Mode) → n ≢ (called m).0
