-- A text in two pieces. Assumes nothing.
use Rattle.std.proofs.Common.{◌≡◌, ℕ, zero, suc, ◌+◌, ◌*◌, ◌/◌, ◌%◌, ◌≤◌, List, [], ◌∷◌, ◌++◌, length, get_or, drop, sym, ap, ◌∙◌, arith}
use Rattle.std.proofs.lemmas.List.{length-append, length-drop, nil_from_length, get_or_append_left, drop-append-le}
use Rattle.cipher.specs.declared.block.Block.{Block}
use Rattle.modes.specs.declared.mode.Mode.{Mode}
use Rattle.modes.specs.declared.mode.Step.{Step}
use Rattle.cipher.specs.Bytes.{block_at}
use Rattle.modes.specs.Layout.{cut, blocks, bytes}
use Rattle.modes.specs.Formulas.{forward, outs, after}
use Rattle.modes.specs.Runs.{Ran}
use Rattle.modes.specs.Texts.{enciphered, following}
use Rattle.modes.proofs.Pieces.{bytes-++, outs-++, after-++}

pub at_front : (xs ys : List ℕ) → 8 ≤ length xs → block_at (xs ++ ys) 0 ≡ block_at xs 0
at_front xs ys l =
    let at : (i : ℕ) → i + 1 ≤ 8 → get_or (xs ++ ys) i 0 ≡ get_or xs i 0 = λ i h. get_or_append_left xs ys 0 i (omega arith) in
    let e0 = at 0 (omega arith) in let e1 = at 1 (omega arith) in let e2 = at 2 (omega arith) in let e3 = at 3 (omega arith) in
    let e4 = at 4 (omega arith) in let e5 = at 5 (omega arith) in let e6 = at 6 (omega arith) in let e7 = at 7 (omega arith) in
    simp (e0, e1, e2, e3, e4, e5, e6, e7)

pub cut-++ : (n k : ℕ) (xs ys : List ℕ) → length xs ≡ n * 8 → cut (n + k) (xs ++ ys) ≡ cut n xs ++ cut k ys
cut-++ zero k xs ys e =
    let none : xs ≡ [] = nil_from_length xs (omega arith) in
    let plain : 0 + k ≡ k = omega arith in
    ap (λ (j : ℕ). cut j (xs ++ ys)) plain ∙ ap (λ (l : List ℕ). cut k (l ++ ys)) none
cut-++ (suc n) k xs ys e =
    let on : suc n + k ≡ suc (n + k) = omega arith in
    ap (λ (j : ℕ). cut j (xs ++ ys)) on
    ∙ ap (λ (l : List ℕ). block_at (xs ++ ys) 0 ∷ cut (n + k) l) (drop-append-le 8 xs ys (omega arith))
    ∙ ap (λ (b : Block). b ∷ cut (n + k) (drop 8 xs ++ ys)) (at_front xs ys (omega arith))
    ∙ ap (λ (l : List Block). block_at xs 0 ∷ l) (cut-++ n k (drop 8 xs) ys (omega (arith, length-drop 8 xs)))

blocks-++ : (xs ys : List ℕ) → length xs % 8 ≡ 0 → blocks (xs ++ ys) ≡ blocks xs ++ blocks ys
blocks-++ xs ys w =
    let n : length (xs ++ ys) / 8 ≡ length xs / 8 + length ys / 8 = omega (arith, length-append xs ys) in
    ap (λ (k : ℕ). cut k (xs ++ ys)) n ∙ cut-++ (length xs / 8) (length ys / 8) xs ys (omega arith)

-- a run over one piece and then, from where it ended, over the next is one run over both
pub ran_on : (f : Block → Block → Step) (s c d : Block) (old xs ys p q : List ℕ) → old ≡ xs ++ ys → length xs % 8 ≡ 0
    → Ran f s xs c p → Ran f c ys d q → Ran f s old d (p ++ q)
ran_on f s c d old xs ys p q e w first second =
    let split = ap blocks e ∙ blocks-++ xs ys w in
    let from : outs f c (blocks ys) ≡ outs f (after f s (blocks xs)) (blocks ys) = ap (λ (b : Block). outs f b (blocks ys)) first.1 in (
      ap (λ (l : List ℕ). l ++ q) first.0 ∙ ap (λ (l : List ℕ). bytes (outs f s (blocks xs)) ++ l) (second.0 ∙ ap bytes from)
          ∙ sym (bytes-++ (outs f s (blocks xs)) _) ∙ ap bytes (sym (outs-++ f s (blocks xs) (blocks ys))) ∙ ap (λ (l : List Block). bytes (outs f s l)) (sym split),
      second.1 ∙ ap (λ (b : Block). after f b (blocks ys)) first.1 ∙ sym (after-++ f s (blocks xs) (blocks ys)) ∙ ap (after f s) (sym split),
    )

pub in_pieces : (m : Mode) (E : Block → Block) (s : Block) (old xs ys : List ℕ) → old ≡ xs ++ ys → length xs % 8 ≡ 0
    → (enciphered m E s old ≡ enciphered m E s xs ++ enciphered m E (following m E s xs) ys)
    × (following m E s old ≡ following m E (following m E s xs) ys)
in_pieces m E s old xs ys e w =
    let f = forward m E in
    let split = ap blocks e ∙ blocks-++ xs ys w in (
      ap (λ (l : List Block). bytes (outs f s l)) split ∙ ap bytes (outs-++ f s (blocks xs) (blocks ys)) ∙ bytes-++ (outs f s (blocks xs)) _,
      ap (after f s) split ∙ after-++ f s (blocks xs) (blocks ys),
    )
