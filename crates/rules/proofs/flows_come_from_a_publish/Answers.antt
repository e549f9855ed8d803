use Rattle.rules.proofs.Extends.{every_run}
use Rattle.rules.proofs.flows_come_from_a_publish.Goals as goal

pub returns : goal.returns
returns c = λ E1 D1 E2 D2 k l n log w R. (every_run E1 D1 E2 D2 k l n log w R).flows_come_from_a_publish
