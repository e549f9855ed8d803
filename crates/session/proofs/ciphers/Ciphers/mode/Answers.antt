use Rattle.std.proofs.Common.{refl, ap}
use Rattle.session.specs.declared.answer.Answer.TheVariants.{Accepted}
use Rattle.session.specs.declared.answer.Value.TheVariants.{Code}
use Rattle.session.specs.Calls.Codes.{no_mode, codes}
use Rattle.session.proofs.Faults.{fault}
use Rattle.session.proofs.ciphers.Ciphers.mode.Goals as goal

pub returns-in_err-mode : goal.returns-in_err-mode
returns-in_err-mode c =
    let h = c.in_err-mode.ensures in
    rw (fault c.from_residual.result c.from_residual.ensures.1) (no_mode _ h.1 refl h.0 refl)

pub returns : goal.returns
returns c = codes c.in_ok-mode.mode c.in_ok-mode.ensures (ap (λ n. Accepted (Code n)) c.code.ensures) refl
