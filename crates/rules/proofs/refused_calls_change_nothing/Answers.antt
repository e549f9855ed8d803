use Rattle.rules.proofs.Counting.{refused_keeps}
use Rattle.rules.proofs.refused_calls_change_nothing.Goals as goal

pub returns : goal.returns
returns c = refused_keeps
