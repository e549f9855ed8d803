-- What the calls on a buffer answer and leave.
--   Whole xs             whole blocks, at most 65,536 bytes
--   enciphered m E s xs  the bytes of C1, C2, .. where xs is the text and s the starting block
--   following m E s xs   the block with which a following piece starts
--   Enciphers, Deciphers m E s old r new    the call from s on `old` answers r and leaves `new`
--   OneText m E s given text                text enciphers to `given`, and no other text does
--   Back                 what is left of a text that was enciphered deciphers to it
--   InPieces             a text in two pieces, the second from where the first ended, is enciphered as one
use Rattle.std.specs.Prelude.{◌≡◌, ℕ, ◌%◌, ◌≤◌, List, ◌++◌, length, Result}
use Rattle.cipher.specs.declared.block.Block.{Block}
use Rattle.cipher.specs.Bytes.{Bytes}
use Rattle.refusal.specs.declared.Refusal.{Refusal}
use Rattle.refusal.specs.Refusals.{Answers}
use Rattle.modes.specs.declared.mode.Mode.{Mode}
use Rattle.modes.specs.Formulas.{forward, outs, after}
use Rattle.modes.specs.Layout.{blocks, bytes}

abbrev pub WholeLength : ℕ → Type 0
WholeLength n = (n % 8 ≡ 0) × (n ≤ 65536)

abbrev pub Whole : List ℕ → Type 0
Whole xs = WholeLength (length xs)

abbrev pub enciphered : Mode → (Block → Block) → Block → List ℕ → List ℕ
enciphered m E s xs = bytes (outs (forward m E) s (blocks xs))

abbrev pub following : Mode → (Block → Block) → Block → List ℕ → Block
following m E s xs = after (forward m E) s (blocks xs)

abbrev pub Enciphers : Mode → (Block → Block) → Block → List ℕ → Result Block Refusal → List ℕ → Type 0
Enciphers m E s old r new =
    Answers r (λ next. Whole old × (new ≡ enciphered m E s old) × (next ≡ following m E s old)) (λ n. (n ≡ 17) × (Whole old → ⊥) × (new ≡ old))

pub record OneText (m : Mode) (E : Block → Block) (s : Block) (given text : List ℕ) : Type 0 where
  pub proper : Bytes text
  pub whole : Whole text
  pub enciphers : enciphered m E s text ≡ given
  pub only : (other : List ℕ) → Bytes other → Whole other → enciphered m E s other ≡ given → other ≡ text

abbrev pub Deciphers : Mode → (Block → Block) → Block → List ℕ → Result Block Refusal → List ℕ → Type 0
Deciphers m E s old r new =
    Answers r (λ next. Whole old × OneText m E s old new × (next ≡ following m E s new)) (λ n. (n ≡ 17) × (Whole old → ⊥) × (new ≡ old))

abbrev pub Back : Mode → (Block → Block) → Block → List ℕ → Result Block Refusal → List ℕ → Type 0
Back m E s old r new = Answers r (λ _. OneText m E s new old) (λ _. Unit {0})

abbrev pub InPieces : Mode → (Block → Block) → Block → List ℕ → Result Block Refusal → List ℕ → Type 0
InPieces m E s old r new =
    Answers r
    (λ next. (xs ys : List ℕ) → old ≡ xs ++ ys → length xs % 8 ≡ 0
    → (new ≡ enciphered m E s xs ++ enciphered m E (following m E s xs) ys) × (next ≡ following m E (following m E s xs) ys))
    (λ _. Unit {0})
