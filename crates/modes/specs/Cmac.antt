-- The tag: CMAC with blocks of 64 bits.
--   doubled b           one bit to the left over both words, and 1B into it where the top bit was set
--   padded rest         fewer than eight bytes, then 80 and zeros
--   last_block k1 k2 r  a full last block with k1, otherwise the padded one with k2
--   tag_of E xs         the tag of a text
use Rattle.std.specs.Prelude.{◌≡◌, ℕ, ◌-◌, ◌*◌, ◌/◌, ◌%◌, ◌^◌, ◌≤◌, cond, List, [], ◌∷◌, ◌++◌, length, drop, Result, ◌==◌, bit_or, bit_xor, nat_lt}
use Rattle.cipher.specs.declared.block.Block.{Block}
use Rattle.cipher.specs.Bytes.{block_of}
use Rattle.refusal.specs.declared.Refusal.{Refusal}
use Rattle.refusal.specs.Refusals.{Answers}
use Rattle.modes.specs.declared.mode.Mode.TheVariants.{Cbc}
use Rattle.cipher.specs.Blocks.{xor}
use Rattle.modes.specs.Formulas.{forward, after}
use Rattle.modes.specs.Layout.{cut}

abbrev pub zeros : Block
zeros = record { left = 0; right = 0 }

abbrev pub doubled : Block → Block
doubled b =
    record {
      left = bit_or (b.left * 2 % 2 ^ 32) (b.right / 2 ^ 31);
      right = bit_xor (b.right * 2 % 2 ^ 32) (cond (nat_lt b.left (2 ^ 31)) 0 0x1B);
    }

-- past the end of a list stands 0
abbrev pub padded : List ℕ → Block
padded rest = block_of (rest ++ 0x80 ∷ [])

abbrev pub last_block : Block → Block → List ℕ → Block
last_block k1 k2 rest = cond (length rest == 8) (xor (block_of rest) k1) (xor (padded rest) k2)

-- the blocks before the last, which is full or not, and the last one with its key
abbrev pub marked : Block → Block → List ℕ → List Block
marked k1 k2 xs = cut ((length xs - 1) / 8) xs ++ last_block k1 k2 (drop ((length xs - 1) / 8 * 8) xs) ∷ []

-- the last cipher block of CBC from zero
abbrev pub tag_of : (Block → Block) → List ℕ → Block
tag_of E xs = after (forward Cbc E) zeros (marked (doubled (E zeros)) (doubled (doubled (E zeros))) xs)

abbrev pub Tags : (Block → Block) → List ℕ → Result Block Refusal → Type 0
Tags E xs r = Answers r (λ t. (length xs ≤ 65536) × (t ≡ tag_of E xs)) (λ n. (n ≡ 17) × (length xs ≤ 65536 → ⊥))
