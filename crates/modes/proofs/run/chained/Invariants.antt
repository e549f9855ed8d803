use Rattle.std.proofs.Common.{◌≡◌, ◌-◌, ◌%◌, ◌≤◌, length}
use Rattle.cipher.specs.declared.block.Block.{Block}
use Rattle.modes.specs.declared.mode.Step.{Step}
use Rattle.modes.specs.Runs.{Gives}
use Rattle.modes.proofs.Pieces.{Sofar}
use Rattle.modes.proofs.run.chained.Given as goal

abbrev pub invariant-loop-at : goal.invariant-loop-at
invariant-loop-at g l =
    (length l.buffer ≡ l.at-end) × (l.at % 8 ≡ 0) × (l.at ≤ l.at-end)
    × ((f : Block → Block → Step) → Gives (goal.F-post g l.step) f → Sofar f l.initial.chain l.initial.buffer l.chain l.buffer l.at)

abbrev pub decreases-loop-at : goal.decreases-loop-at
decreases-loop-at g l = l.at-end - l.at
