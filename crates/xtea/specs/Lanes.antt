-- Blocks in lanes.
--   in_lane f x k    the block in lane k of x, where f picks a word by its lane
use Rattle.std.specs.Prelude.{ℕ}
use Rattle.cipher.specs.declared.block.Block.{Block}
use Rattle.xtea.specs.declared.halves.Halves.{Halves}

abbrev pub in_lane : {W : Type 0} → (W → ℕ → ℕ) → Halves W → ℕ → Block
in_lane lane x k = record { left = lane x.left k; right = lane x.right k }
