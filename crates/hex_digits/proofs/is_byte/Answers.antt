use Rattle.std.proofs.Common.{arith}
use Rattle.hex_digits.proofs.Spelling.{pair_bytes, no_high}
use Rattle.hex_digits.proofs.is_byte.Goals as goal

pub returns-then-is_digit : goal.returns-then-is_digit
returns-then-is_digit c = pair_bytes _ c.args.pair.now (omega arith) c.if-is_digit.ensures c.is_digit-then-is_digit.ensures

pub returns-else-is_digit : goal.returns-else-is_digit
returns-else-is_digit c = rw c.if-is_digit.false (no_high c.args.pair.now (omega arith) c.if-is_digit.ensures)
