-- A stage between two others lies no further above the lower one than the higher one does.
use Rattle.std.proofs.Common.{arith}
use Rattle.std.proofs.lemmas.Int.{to_z-of_z}
use Rattle.curve.proofs.Lines.{above_le}
use Rattle.curve.proofs.line.Segment.flow_at.Goals as goal

pub share-requires-clause-part : goal.share-requires-clause-part
share-requires-clause-part c = let m = above_le _ _ _ c.requires.0 c.requires.1 in grind (arith, to_z-of_z)
