-- Bytes in capital hexadecimal digits.
--   digit_of d      the digit of a number below 16
--   spelled bs      the digits of bytes, two to a byte, the higher first
--   Unspelt n ds    no n bytes are spelled ds
--   NoBlock ds      no block is spelled ds
use Rattle.std.specs.Prelude.{◌≡◌, ℕ, ◌+◌, ◌/◌, ◌%◌, cond, List, [], ◌∷◌, length, ◌≢◌, nat_lt}
use Rattle.cipher.specs.declared.block.Block.{Block}
use Rattle.cipher.specs.Blocks.{Sound}
use Rattle.cipher.specs.Bytes.{Bytes, bytes_of}

-- 0 to 9 stand from 48 on, A to F from 65 on
abbrev pub digit_of : ℕ → ℕ
digit_of d = cond (nat_lt d 10) (48 + d) (55 + d)

unfoldable pub spelled : List ℕ → List ℕ
spelled [] = []
spelled (b ∷ bs) = digit_of (b / 16) ∷ digit_of (b % 16) ∷ spelled bs

abbrev pub Unspelt : ℕ → List ℕ → Type 0
Unspelt n ds = (bs : List ℕ) → Bytes bs → length bs ≡ n → spelled bs ≢ ds

abbrev pub NoBlock : List ℕ → Type 0
NoBlock ds = (b : Block) → Sound b → spelled (bytes_of b) ≢ ds
