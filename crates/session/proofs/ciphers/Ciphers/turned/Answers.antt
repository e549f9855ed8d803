use Rattle.std.proofs.Common.{refl, ap}
use Rattle.script.specs.Calls.{working}
use Rattle.session.specs.declared.answer.Answer.TheVariants.{Accepted}
use Rattle.session.specs.declared.answer.Value.TheVariants.{Block}
use Rattle.session.specs.Calls.Turned.{turns_block, turns_text}
use Rattle.session.proofs.ciphers.Ciphers.turned.Goals as goal

pub returns-in-Block : goal.returns-in-Block
returns-in-Block g c =
    turns_block _ c.in-Block.block (ap working c.in-Block.is) c.in_ok-cipher.ensures (ap (λ b. Accepted (Block b)) c.block.ensures) refl

pub returns-in-Text : goal.returns-in-Text
returns-in-Text g c = turns_text _ _ _ _ (ap working c.in-Text.is) c.in_ok-cipher.ensures c.by_mode.ensures refl
