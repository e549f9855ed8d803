use Rattle.std.proofs.Common.{◌≡◌, take}
use Rattle.std.specs.String.{string_bytes}
use Rattle.hex_digits.specs.Digits.{spelled}
use Rattle.hex_digits.proofs.spell.Given as goal

abbrev pub invariant-loop-byte : goal.invariant-loop-byte
invariant-loop-byte l = string_bytes l.digits ≡ spelled (take l.byte-index l.bytes)
