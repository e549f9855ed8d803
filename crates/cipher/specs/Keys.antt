-- Keys.
--   Alike P Q    the same lengths of key are lawful by P and by Q
--   Stays        what keys mean is as it was: which lengths are lawful, E under a key and D under it, now and before
use Rattle.std.specs.Prelude.{◌≡◌, ℕ, List}
use Rattle.cipher.specs.declared.block.Block.{Block}

abbrev pub Alike : (ℕ → Type 0) → (ℕ → Type 0) → Type 0
Alike P Q = (n : ℕ) → (P n → Q n) × (Q n → P n)

abbrev pub Stays : (ℕ → Type 0) → (List ℕ → Block → Block) → (List ℕ → Block → Block)
    → (ℕ → Type 0) → (List ℕ → Block → Block) → (List ℕ → Block → Block) → Type 0
Stays P E D Q F G = Alike P Q × (E ≡ F) × (D ≡ G)
