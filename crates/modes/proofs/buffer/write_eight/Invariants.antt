use Rattle.std.proofs.Common.{◌≡◌, take}
use Rattle.modes.specs.Layout.{with_blocks}
use Rattle.modes.proofs.buffer.write_eight.Given as goal

abbrev pub invariant-loop-k : goal.invariant-loop-k
invariant-loop-k l = l.buffer ≡ with_blocks l.initial.buffer l.at (take l.k l.block-items)
