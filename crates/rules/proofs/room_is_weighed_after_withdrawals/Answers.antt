use Rattle.rules.proofs.Counting.{room_exactly}
use Rattle.rules.proofs.room_is_weighed_after_withdrawals.Goals as goal

pub returns : goal.returns
returns c = room_exactly
