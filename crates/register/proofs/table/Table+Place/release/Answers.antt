use Rattle.std.proofs.Common.{refl, rules}
use Rattle.register.proofs.table.Table+Place.release.Goals as goal

pub returns : goal.returns
returns c = (_, refl, refl, search rules, search rules, search rules)
