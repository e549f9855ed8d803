use Rattle.std.proofs.Common.{replicate, ap, rules}
use Rattle.register.proofs.Fresh.{is_unused}
use Rattle.register.proofs.table.Table+Place.empty.Goals as goal

pub returns : goal.returns
returns c = ap (replicate 32) (is_unused _ (search rules) (search rules) (search rules) (search rules))
