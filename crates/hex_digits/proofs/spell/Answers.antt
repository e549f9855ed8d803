use Rattle.std.proofs.Common.{arith}
use Rattle.hex_digits.specs.Digits.{spelled}
use Rattle.hex_digits.proofs.Spelling.{spell_more}
use Rattle.hex_digits.proofs.spell.Goals as goal

pub loop-byte-init : goal.loop-byte-init
unfolding spelled
loop-byte-init c = c.new-digits.ensures.bytes

pub loop-byte-preserved : goal.loop-byte-preserved
loop-byte-preserved c =
    spell_more c.args.bytes.now c.loop-byte.byte-index _ _ _ _ _ _ _ _ (omega arith) (omega arith) c.digits_of.ensures c.from.ensures c.from-in-loop-byte.ensures c.loop-byte.invariant
    c.in_ok-push.ensures.bytes c.in_ok-push.ensures.ascii c.in_ok-push-2.ensures.bytes c.in_ok-push-2.ensures.ascii
