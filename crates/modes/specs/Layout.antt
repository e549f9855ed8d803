-- Blocks in a text, big-endian, the left word first.
--   with_block xs i b   xs with the bytes of b from place i on; with_blocks for several
--   cut n xs            the first n blocks of a text
--   bytes bs            the bytes of blocks, one after the other
--   blocks xs           the blocks of a text; fewer than eight bytes at the end make none
use Rattle.std.specs.Prelude.{ℕ, zero, suc, ◌+◌, ◌*◌, ◌/◌, List, [], ◌∷◌, ◌++◌, length, take, drop}
use Rattle.cipher.specs.declared.block.Block.{Block}
use Rattle.cipher.specs.Bytes.{block_at, bytes_of}

abbrev pub with_block : List ℕ → ℕ → Block → List ℕ
with_block xs i b = take i xs ++ (bytes_of b ++ drop (i + 8) xs)

abbrev pub bytes : List Block → List ℕ
bytes [] = []
bytes (b ∷ bs) = bytes_of b ++ bytes bs

-- the first n blocks of xs
abbrev pub cut : ℕ → List ℕ → List Block
cut zero xs = []
cut (suc n) xs = block_at xs 0 ∷ cut n (drop 8 xs)

abbrev pub blocks : List ℕ → List Block
blocks xs = cut (length xs / 8) xs

-- xs with the bytes of blocks from place i on
abbrev pub with_blocks : List ℕ → ℕ → List Block → List ℕ
with_blocks xs i bs = take i xs ++ (bytes bs ++ drop (i + length bs * 8) xs)
