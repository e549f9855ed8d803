use Rattle.std.proofs.Common.{◌≡◌, take}
use Rattle.std.specs.List.{flat_map}
use Rattle.cipher.specs.Bytes.{Bytes}
use Rattle.hex_digits.specs.Digits.{spelled}
use Rattle.hex_digits.proofs.read.Given as goal

abbrev pub invariant-loop-i : goal.invariant-loop-i
invariant-loop-i l = (spelled (take l.i l.bytes) ≡ flat_map (λ x. x) (take l.i l.pairs)) × Bytes (take l.i l.bytes)
