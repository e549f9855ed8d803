use Rattle.std.proofs.Common.{◌≡◌, ◌-◌, ◌%◌, ◌≤◌, length}
use Rattle.cipher.specs.declared.block.Block.{Block}
use Rattle.modes.specs.Runs.{GivesEach, by_pairs}
use Rattle.modes.proofs.Pieces.{Sofar}
use Rattle.modes.proofs.run.by_eights.Given as goal

abbrev pub invariant-loop-at : goal.invariant-loop-at
invariant-loop-at g l =
    (length l.buffer ≡ l.at-end) × (l.at % 64 ≡ 0) × (l.at ≤ l.at-end)
    × ((f : Block → Block → Block) → GivesEach (goal.M-post g l.many) f → Sofar (by_pairs f) l.initial.chain l.initial.buffer l.chain l.buffer l.at)

abbrev pub decreases-loop-at : goal.decreases-loop-at
decreases-loop-at g l = l.at-end - l.at
