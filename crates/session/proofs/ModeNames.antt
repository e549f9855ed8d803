-- The names of modes are text.
use Rattle.std.proofs.Common.{◌≡◌, ℕ, List, IsUtf8, sym, subst, rules}
use Rattle.std.proofs.lemmas.Str.{IsUtf8-from_ascii}
use Rattle.std.proofs.lemmas.Str.Ascii.{IsAscii-from_all}
use Rattle.modes.specs.declared.mode.Mode.{Mode}
use Rattle.modes.specs.declared.mode.Mode.TheVariants.{Ecb, Cbc, Cfb, Ofb}
use Rattle.modes.specs.Names.{called}

all_utf8 : (m : Mode) → IsUtf8 (called m).0
all_utf8 Ecb = IsUtf8-from_ascii (called Ecb).0 (IsAscii-from_all (called Ecb).0 (search rules))
all_utf8 Cbc = IsUtf8-from_ascii (called Cbc).0 (IsAscii-from_all (called Cbc).0 (search rules))
all_utf8 Cfb = IsUtf8-from_ascii (called Cfb).0 (IsAscii-from_all (called Cfb).0 (search rules))
all_utf8 Ofb = IsUtf8-from_ascii (called Ofb).0 (IsAscii-from_all (called Ofb).0 (search rules))

pub mode_utf8 : (m : Mode) (w : List ℕ) → w ≡ (called m).0 → IsUtf8 w
mode_utf8 m w e = subst IsUtf8 (sym e) (all_utf8 m)
