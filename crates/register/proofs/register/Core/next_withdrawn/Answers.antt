use Rattle.std.proofs.Common.{rules}
use Rattle.register.specs.Looking.{Withdrawn}
use Rattle.register.specs.Meaning.{meaning}
use Rattle.register.proofs.Looking.{next_of, not_past}
use Rattle.register.proofs.register.Core.next_withdrawn.Goals as goal

pub returns : goal.returns
returns c = next_of (Withdrawn (meaning c.args.self.now)) c.lowest_above.ensures (λ n b t. search rules) (not_past c.args.self.now)
