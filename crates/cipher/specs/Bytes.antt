-- Words and blocks as bytes, big-endian, the left word first.
--   Bytes xs        each of xs is a byte
--   word a b c d    the word of four bytes, the first one highest
--   word_bytes w    the four bytes of a word
--   word_at xs i    the word whose bytes stand in xs from place i on
--   block_at xs i   the block whose bytes stand in xs from place i on
--   block_of xs     the block of the first eight bytes of xs
--   bytes_of b      the eight bytes of a block
use Rattle.std.specs.Prelude.{ℕ, ◌+◌, ◌*◌, ◌/◌, ◌%◌, ◌<◌, List, [], ◌∷◌, ◌++◌, slice_index}
use Rattle.std.specs.List.{AllByRecursion}
use Rattle.cipher.specs.declared.block.Block.{Block}

abbrev pub Bytes : List ℕ → Type 0
Bytes xs = AllByRecursion (λ x. x < 256) xs

abbrev pub word : ℕ → ℕ → ℕ → ℕ → ℕ
word a b c d = a * 16777216 + b * 65536 + c * 256 + d

abbrev pub word_bytes : ℕ → List ℕ
word_bytes w = (w / 16777216 % 256) ∷ (w / 65536 % 256) ∷ (w / 256 % 256) ∷ (w % 256) ∷ []

abbrev pub word_at : List ℕ → ℕ → ℕ
word_at xs i = word (slice_index xs i) (slice_index xs (i + 1)) (slice_index xs (i + 2)) (slice_index xs (i + 3))

abbrev pub block_at : List ℕ → ℕ → Block
block_at xs i = record { left = word_at xs i; right = word_at xs (i + 4) }

abbrev pub block_of : List ℕ → Block
block_of xs = block_at xs 0

abbrev pub bytes_of : Block → List ℕ
bytes_of b = word_bytes b.left ++ word_bytes b.right
