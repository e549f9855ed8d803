use Rattle.rules.proofs.Extends.{every_call}
use Rattle.rules.proofs.calls_carry_runs_on.Goals as goal

pub returns : goal.returns
returns c = every_call
