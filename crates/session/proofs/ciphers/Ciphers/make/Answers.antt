use Rattle.std.proofs.Common.{refl}
use Rattle.session.specs.Calls.Makes.{taken, unmade, makes, no_memory}
use Rattle.session.specs.State.{find}
use Rattle.session.specs.Views.{standing}
use Rattle.session.proofs.Faults.{fault}
use Rattle.session.proofs.Finding.{found_some, found_none}
use Rattle.session.proofs.ciphers.Ciphers.make.Goals as goal

pub returns-then-is_some : goal.returns-then-is_some
returns-then-is_some c =
    let x = found_some _ c.named.result (find c.args.name.now (standing c.args.self.now)) c.named.ensures cc in
    taken x.0 x.1 refl refl

pub returns-in-Err : goal.returns-in-Err
returns-in-Err c = unmade _ (found_none _ c.named.result _ c.named.ensures cc) c.in-Err.ensures refl refl

pub returns-in_err-join : goal.returns-in_err-join
returns-in_err-join c =
    rw (fault c.from_residual.result c.from_residual.ensures.1) (no_memory _ (found_none _ c.named.result _ c.named.ensures cc) c.in-Ok.ensures refl c.in_err-join.ensures)

pub returns : goal.returns
returns c = makes _ (found_none _ c.named.result _ c.named.ensures cc) c.in-Ok.ensures refl c.in_ok-join.ensures
