use Rattle.rules.proofs.Lawfulness.{stays_lawful}
use Rattle.rules.proofs.calls_keep_registers_lawful.Goals as goal

pub returns : goal.returns
returns c = stays_lawful
