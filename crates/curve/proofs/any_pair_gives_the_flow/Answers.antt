use Rattle.curve.proofs.Neighbours.{any_pair, flows_within, flows_between}
use Rattle.curve.proofs.any_pair_gives_the_flow.Goals as goal

pub returns : goal.returns
returns c = record { any_pair = any_pair; flows_within = flows_within; flows_between = flows_between }
