use Rattle.rules.proofs.Extends.{every_run}
use Rattle.rules.proofs.withdrawn_stays_withdrawn.Goals as goal

pub returns : goal.returns
returns c = λ E1 D1 E2 D2 k l n log w R. (every_run E1 D1 E2 D2 k l n log w R).withdrawn_stays_withdrawn
