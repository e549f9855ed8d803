use Rattle.rules.proofs.Counting.{serial_counts}
use Rattle.rules.proofs.serials_count_seals.Goals as goal

pub returns : goal.returns
returns c = serial_counts
