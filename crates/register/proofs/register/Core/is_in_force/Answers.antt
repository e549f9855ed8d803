use Rattle.std.proofs.Common.{⊎_elim}
use Rattle.std.proofs.lemmas.Bool.{cases_Bool}
use Rattle.register.proofs.Calling.{nowhere}
use Rattle.register.proofs.Looking.{in_force_of, not_in_force}
use Rattle.register.proofs.register.Core.is_in_force.Goals as goal

pub returns : goal.returns
returns c = (
  λ t. in_force_of c.args.self.now c.args.number (c.has.ensures.some t),
  λ f. ⊎_elim (λ t. t) (λ n. absurd (not_in_force c.args.self.now c.args.number (nowhere c.args.self.now c.args.number (c.has.ensures.none n)) f)) (cases_Bool c.has.result),
)
