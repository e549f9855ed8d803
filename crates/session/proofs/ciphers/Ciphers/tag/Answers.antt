use Rattle.std.proofs.Common.{refl, ap}
use Rattle.session.specs.declared.answer.Answer.TheVariants.{Accepted}
use Rattle.session.specs.declared.answer.Value.TheVariants.{Block}
use Rattle.session.specs.Calls.Tags.{too_long, tags}
use Rattle.session.proofs.Faults.{fault}
use Rattle.session.proofs.ciphers.Ciphers.tag.Goals as goal

pub returns-in_err-tag : goal.returns-in_err-tag
returns-in_err-tag c =
    let h = c.in_err-tag.ensures in
    rw (fault c.from_residual-in_err-tag.result c.from_residual-in_err-tag.ensures.1) (too_long _ _ c.in_ok-cipher.ensures h.1 refl h.0 refl)

pub returns : goal.returns
returns c = tags _ c.in_ok-cipher.ensures (ap (λ b. Accepted (Block b)) c.in_ok-tag.ensures.1) refl
