-- Functions on blocks.
--   Sound b        both words of b have 32 bits: every block of a program has that
--   xor a b        two blocks, bit by bit
--   Inverse E D    E and D undo each other
use Rattle.std.specs.Prelude.{◌≡◌, ◌^◌, ◌<◌, bit_xor}
use Rattle.cipher.specs.declared.block.Block.{Block}

abbrev pub Sound : Block → Type 0
Sound b = (b.left < 2 ^ 32) × (b.right < 2 ^ 32)

abbrev pub xor : Block → Block → Block
xor a b = record { left = bit_xor a.left b.left; right = bit_xor a.right b.right }

pub record Inverse (E D : Block → Block) : Type 0 where
  pub enc_sound : (b : Block) → Sound b → Sound (E b)
  pub dec_sound : (b : Block) → Sound b → Sound (D b)
  pub dec_enc : (b : Block) → Sound b → D (E b) ≡ b
  pub enc_dec : (b : Block) → Sound b → E (D b) ≡ b
