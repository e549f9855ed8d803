use Rattle.rules.proofs.Extends.{every_run}
use Rattle.rules.proofs.starting_blocks_differ.Goals as goal

pub returns : goal.returns
returns c = λ E1 D1 E2 D2 k l n log w R. (every_run E1 D1 E2 D2 k l n log w R).starting_blocks_differ
