use Rattle.rules.proofs.Copies.{copy_of}
use Rattle.rules.proofs.Encoding.{one_list}
use Rattle.rules.proofs.Padding.{one_padding, bundle_fits}
use Rattle.rules.proofs.bundles_say_one_thing.Goals as goal

pub returns : goal.returns
returns c = record { one_list = one_list; fits = bundle_fits; copy_of = copy_of; one_padding = one_padding }
