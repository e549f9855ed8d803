use Rattle.std.proofs.Common.{sym}
use Rattle.std.proofs.lemmas.List.{length-take-le}
use Rattle.curve.proofs.Points.{makes_size}
use Rattle.register.proofs.place.Place.of.Goals as goal

pub slice_bounds-stages-end : goal.slice_bounds-stages-end
slice_bounds-stages-end c = (makes_size _ _ c.args.curve.lawful).2

pub slice_bounds-copy_from_slice-end : goal.slice_bounds-copy_from_slice-end
slice_bounds-copy_from_slice-end c = sym (length-take-le _ _ (makes_size _ _ c.args.curve.lawful).2)

pub copy_from_slice-requires : goal.copy_from_slice-requires
copy_from_slice-requires c = length-take-le _ _ (makes_size _ _ c.args.curve.lawful).2
