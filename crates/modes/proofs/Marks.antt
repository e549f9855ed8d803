-- The tag's blocks, one after another. Assumes nothing.
use Rattle.std.proofs.Common.{◌≡◌, ℕ, zero, suc, ◌+◌, ◌*◌, ◌<◌, ◌≤◌, List, [], ◌∷◌, ◌++◌, length, map, take, drop, set, sym, refl, ap, ◌∙◌, arith}
use Rattle.std.specs.Simd.{first_chunks}
use Rattle.std.proofs.lemmas.List.{append-nil, length-drop, length-take-le, take-append-drop}
use Rattle.cipher.specs.declared.block.Block.{Block}
use Rattle.cipher.specs.Bytes.{block_at, block_of}
use Rattle.modes.specs.Layout.{cut}
use Rattle.modes.specs.declared.mode.Mode.TheVariants.{Cbc}
use Rattle.cipher.specs.Blocks.{xor}
use Rattle.modes.specs.Formulas.{forward, after}
use Rattle.modes.specs.Cmac.{padded}
use Rattle.modes.proofs.Joins.{at_front, cut-++}
use Rattle.modes.proofs.Pieces.{after-++}

abbrev pub eight : List ℕ
eight = 0 ∷ 0 ∷ 0 ∷ 0 ∷ 0 ∷ 0 ∷ 0 ∷ 0 ∷ []

pub pad_is : (rest : List ℕ) → length rest < 8 → block_of (set (rest ++ drop (length rest) eight) (length rest) 128) ≡ padded rest
pad_is [] l = refl
pad_is (a ∷ []) l = refl
pad_is (a ∷ b ∷ []) l = refl
pad_is (a ∷ b ∷ c ∷ []) l = refl
pad_is (a ∷ b ∷ c ∷ d ∷ []) l = refl
pad_is (a ∷ b ∷ c ∷ d ∷ e ∷ []) l = refl
pad_is (a ∷ b ∷ c ∷ d ∷ e ∷ f ∷ []) l = refl
pad_is (a ∷ b ∷ c ∷ d ∷ e ∷ f ∷ g ∷ []) l = refl
pad_is (a ∷ b ∷ c ∷ d ∷ e ∷ f ∷ g ∷ h ∷ xs) l = absurd (omega arith)

-- the first eight bytes hold the first block
first_of : (xs : List ℕ) → 8 ≤ length xs → block_of (take 8 xs) ≡ block_at xs 0
first_of xs l =
    sym (at_front (take 8 xs) (drop 8 xs) (omega (arith, length-take-le 8 xs l))) ∙ ap (λ (ys : List ℕ). block_at ys 0) (take-append-drop 8 xs)

-- chunks of eight bytes hold the blocks of a text
pub chunks_hold : (n : ℕ) (xs : List ℕ) → n * 8 ≤ length xs → map block_of (first_chunks 8 n xs) ≡ cut n xs
chunks_hold zero xs l = refl
chunks_hold (suc n) xs l =
    ap (λ (b : Block). b ∷ map block_of (first_chunks 8 n (drop 8 xs))) (first_of xs (omega arith))
    ∙ ap (λ (bs : List Block). block_at xs 0 ∷ bs) (chunks_hold n (drop 8 xs) (omega (arith, length-drop 8 xs)))

-- the first n blocks lie in the first 8n bytes
pub cut_front : (n : ℕ) (xs : List ℕ) → n * 8 ≤ length xs → cut n (take (n * 8) xs) ≡ cut n xs
cut_front n xs l =
    sym (append-nil (cut n (take (n * 8) xs))) ∙ sym (cut-++ n 0 (take (n * 8) xs) (drop (n * 8) xs) (length-take-le (n * 8) xs l))
    ∙ ap (λ (ys : List ℕ). cut (n + 0) ys) (take-append-drop (n * 8) xs) ∙ ap (λ (k : ℕ). cut k xs) (omega arith)

-- a block more in the chain
pub chain_more : (E : Block → Block) (s c d : Block) (bs : List Block) (b : Block) → c ≡ after (forward Cbc E) s bs → d ≡ E (xor b c) → d ≡ after (forward Cbc E) s (bs ++ b ∷ [])
chain_more E s c d bs b e f = f ∙ ap (λ (k : Block). E (xor b k)) e ∙ sym (after-++ (forward Cbc E) s bs (b ∷ []))
