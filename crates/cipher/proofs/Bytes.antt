-- Words and blocks as bytes and back.
use Rattle.std.proofs.Common.{◌≡◌, ℕ, ◌+◌, ◌*◌, ◌/◌, ◌%◌, ◌^◌, ◌<◌, List, [], ◌∷◌, ◌++◌, length, get_or, ap, ◌∙◌, arith}
use Rattle.cipher.specs.declared.block.Block.{Block}
use Rattle.cipher.specs.Blocks.{Sound}
use Rattle.cipher.specs.Bytes.{word, word_bytes, block_of, bytes_of}

listed : (a b c d p q r s : ℕ) → a ≡ p → b ≡ q → c ≡ r → d ≡ s → a ∷ b ∷ c ∷ d ∷ [] ≡ p ∷ q ∷ r ∷ s ∷ []
listed a b c d p q r s e f g h = cc

-- the bytes of a word of four bytes are these four
pub word_bytes-word : (a b c d : ℕ) → a < 256 → b < 256 → c < 256 → d < 256 → word_bytes (word a b c d) ≡ a ∷ b ∷ c ∷ d ∷ []
word_bytes-word a b c d h i j k = listed _ _ _ _ a b c d (omega arith) (omega arith) (omega arith) (omega arith)

-- the bytes of the block that eight bytes hold are these eight
pub bytes_of-block_of : (xs : List ℕ) → length xs ≡ 8 → ((i : ℕ) → get_or xs i 0 < 256) → bytes_of (block_of xs) ≡ xs
bytes_of-block_of [] e h = absurd (omega (arith, e))
bytes_of-block_of (a ∷ []) e h = absurd (omega (arith, e))
bytes_of-block_of (a ∷ b ∷ []) e h = absurd (omega (arith, e))
bytes_of-block_of (a ∷ b ∷ c ∷ []) e h = absurd (omega (arith, e))
bytes_of-block_of (a ∷ b ∷ c ∷ d ∷ []) e h = absurd (omega (arith, e))
bytes_of-block_of (a ∷ b ∷ c ∷ d ∷ p ∷ []) e h = absurd (omega (arith, e))
bytes_of-block_of (a ∷ b ∷ c ∷ d ∷ p ∷ q ∷ []) e h = absurd (omega (arith, e))
bytes_of-block_of (a ∷ b ∷ c ∷ d ∷ p ∷ q ∷ r ∷ []) e h = absurd (omega (arith, e))
bytes_of-block_of (a ∷ b ∷ c ∷ d ∷ p ∷ q ∷ r ∷ s ∷ []) e h =
    ap (λ xs. xs ++ word_bytes (word p q r s)) (word_bytes-word a b c d (h 0) (h 1) (h 2) (h 3))
    ∙ ap (λ xs. (a ∷ b ∷ c ∷ d ∷ []) ++ xs) (word_bytes-word p q r s (h 4) (h 5) (h 6) (h 7))
bytes_of-block_of (a ∷ b ∷ c ∷ d ∷ p ∷ q ∷ r ∷ s ∷ x ∷ xs) e h = absurd (omega (arith, e))

-- the word of a word's four bytes is the word
pub word-word_bytes : (w : ℕ) → w < 2 ^ 32 → word (w / 16777216 % 256) (w / 65536 % 256) (w / 256 % 256) (w % 256) ≡ w
word-word_bytes w h =
    let a : w / 65536 ≡ w / 256 / 256 = omega arith in
    let b : w / 16777216 ≡ w / 65536 / 256 = omega arith in
    let c : w / 16777216 % 256 ≡ w / 16777216 = omega arith in
    let p : w / 256 * 256 + w % 256 ≡ w = omega arith in
    let q : w / 65536 * 256 + w / 256 % 256 ≡ w / 256 = omega arith in
    let r : w / 16777216 * 256 + w / 65536 % 256 ≡ w / 65536 = omega arith in
    omega arith

-- the block that a block's bytes hold is the block
pub block_of-bytes_of : (b : Block) → Sound b → block_of (bytes_of b) ≡ b
block_of-bytes_of b h =
    let l = word-word_bytes b.left h.0 in
    let r = word-word_bytes b.right h.1 in
    λ i. record { left = l i; right = r i }
