use Rattle.rules.proofs.Meetings.{sealed_is_taken_in}
use Rattle.rules.proofs.Parcels.{sealed_is_read}
use Rattle.rules.proofs.sealed_parcels_are_read.Goals as goal

pub returns : goal.returns
returns c = record { read = sealed_is_read; taken_in = sealed_is_taken_in }
