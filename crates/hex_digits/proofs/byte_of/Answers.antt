use Rattle.std.proofs.Common.{arith}
use Rattle.hex_digits.proofs.Spelling.{byte_back, high_digit, low_digit}
use Rattle.hex_digits.proofs.byte_of.Goals as goal

pub worth-requires : goal.worth-requires
worth-requires c = high_digit c.args.pair.now c.requires

pub worth-requires-2 : goal.worth-requires-2
worth-requires-2 c = low_digit c.args.pair.now c.requires

pub returns : goal.returns
returns c = byte_back c.args.pair.now _ _ (omega arith) c.worth.ensures.0 c.worth-2.ensures.0 c.worth.ensures.1 c.worth-2.ensures.1
