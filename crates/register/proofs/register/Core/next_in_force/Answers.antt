use Rattle.std.proofs.Common.{rules}
use Rattle.register.specs.Looking.{InForce}
use Rattle.register.specs.Meaning.{meaning}
use Rattle.register.proofs.Looking.{next_of, in_force_past}
use Rattle.register.proofs.register.Core.next_in_force.Goals as goal

pub returns : goal.returns
returns c = next_of (InForce (meaning c.args.self.now)) c.lowest_above.ensures (λ n b t. search rules) (in_force_past c.args.self.now)
