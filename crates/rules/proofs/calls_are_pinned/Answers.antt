use Rattle.rules.proofs.Pinned.{pinned}
use Rattle.rules.proofs.calls_are_pinned.Goals as goal

pub returns : goal.returns
returns c = pinned
