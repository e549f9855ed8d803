-- A text read and written block by block. Assumes nothing.
use Rattle.std.proofs.Common.{◌≡◌, ℕ, zero, suc, ◌+◌, ◌*◌, ◌/◌, ◌<◌, ◌≤◌, List, [], ◌∷◌, ◌++◌, length, get_or, take, drop, sym, refl, ap, ◌∙◌, arith}
use borrow.Rule.Slice.PartMut.{put_mid}
use Rattle.std.proofs.lemmas.List.{drop-drop, get_or-drop, take_at, drop_at, length-append, length-take-le, length-drop, append_assoc, append-nil, take_all, drop_all, take-append-drop}
use Rattle.cipher.specs.declared.block.Block.{Block}
use Rattle.modes.specs.declared.mode.Step.{Step}
use Rattle.cipher.specs.Bytes.{word, word_at, block_at, bytes_of}
use Rattle.modes.specs.Layout.{with_block, with_blocks, cut, blocks, bytes}
use Rattle.modes.specs.Formulas.{outs, after}
use Rattle.modes.specs.Runs.{Ran}

-- what a copy into s[a..a + 8] leaves
pub put-block : (xs ys : List ℕ) (a k : ℕ) (b : Block) → k ≡ 8 → ys ≡ bytes_of b → put_mid a k xs ys ≡ with_block xs a b
put-block xs ys a k b e f =
    ap (λ (n : ℕ). put_mid a n xs ys) e ∙ ap (λ (l : List ℕ). take a xs ++ (l ++ drop 8 (drop a xs))) f
    ∙ ap (λ (l : List ℕ). take a xs ++ (bytes_of b ++ l)) (drop-drop 8 a xs)

pub first_block : (ys : List ℕ) → 8 ≤ length ys → blocks ys ≡ block_at ys 0 ∷ blocks (drop 8 ys)
first_block ys l =
    let one : length ys / 8 ≡ suc (length (drop 8 ys) / 8) = omega (arith, length-drop 8 ys) in
    ap (λ (n : ℕ). cut n ys) one

word-drop : (xs : List ℕ) (i j k : ℕ) → i + j ≡ k → word_at (drop i xs) j ≡ word_at xs k
word-drop xs i j k e =
    let at : (n m : ℕ) → i + n ≡ m → get_or (drop i xs) n 0 ≡ get_or xs m 0 = λ n m h. get_or-drop i xs n 0 ∙ ap (λ p. get_or xs p 0) h in
    let a = at j k e in
    let b = at (j + 1) (k + 1) (omega arith) in
    let c = at (j + 2) (k + 2) (omega arith) in
    let d = at (j + 3) (k + 3) (omega arith) in
    λ t. word (a t) (b t) (c t) (d t)

pub block-drop : (xs : List ℕ) (i j : ℕ) → block_at (drop i xs) j ≡ block_at xs (i + j)
block-drop xs i j =
    let l = word-drop xs i j (i + j) refl in
    let r = word-drop xs i (j + 4) (i + j + 4) (omega arith) in
    λ t. record { left = l t; right = r t }

pub at_drop : (xs : List ℕ) (i : ℕ) → block_at (drop i xs) 0 ≡ block_at xs i
at_drop xs i = block-drop xs i 0 ∙ ap (block_at xs) (omega arith)

-- lists of blocks and their bytes
pub bytes-++ : (ps bs : List Block) → bytes (ps ++ bs) ≡ bytes ps ++ bytes bs
bytes-++ [] bs = refl
bytes-++ (a ∷ ps) bs = ap (λ (l : List ℕ). bytes_of a ++ l) (bytes-++ ps bs) ∙ sym (append_assoc (bytes_of a) (bytes ps) (bytes bs))

pub length_bytes : (bs : List Block) → length (bytes bs) ≡ length bs * 8
length_bytes [] = refl
length_bytes (b ∷ bs) = omega (arith, length-append (bytes_of b) (bytes bs), length_bytes bs)

pub length_cut : (n : ℕ) (xs : List ℕ) → length (cut n xs) ≡ n
length_cut zero xs = refl
length_cut (suc n) xs = ap suc (length_cut n (drop 8 xs))

-- the k-th of the first n blocks
pub cut_at : (n k : ℕ) (xs : List ℕ) (d : Block) → k < n → get_or (cut n xs) k d ≡ block_at xs (k * 8)
cut_at zero k xs d l = absurd (omega arith)
cut_at (suc n) zero xs d l = refl
cut_at (suc n) (suc k) xs d l =
    cut_at n k (drop 8 xs) d (omega arith) ∙ block-drop xs 8 (k * 8) ∙ ap (block_at xs) (omega arith)

-- the first k blocks, and those after them
cut_more : (k m : ℕ) (xs : List ℕ) → cut (k + m) xs ≡ cut k xs ++ cut m (drop (k * 8) xs)
cut_more zero m xs = ap (λ (n : ℕ). cut n xs) (omega arith)
cut_more (suc k) m xs =
    let on : suc k + m ≡ suc (k + m) = omega arith in
    ap (λ (n : ℕ). cut n xs) on ∙ ap (λ (bs : List Block). block_at xs 0 ∷ bs) (cut_more k m (drop 8 xs))
    ∙ ap (λ (l : List ℕ). block_at xs 0 ∷ (cut k (drop 8 xs) ++ cut m l)) (drop-drop (k * 8) 8 xs)
    ∙ ap (λ (n : ℕ). block_at xs 0 ∷ (cut k (drop 8 xs) ++ cut m (drop n xs))) (omega arith)

blocks_after : (k : ℕ) (xs : List ℕ) → k * 8 ≤ length xs → blocks xs ≡ cut k xs ++ blocks (drop (k * 8) xs)
blocks_after k xs l =
    let n : length xs / 8 ≡ k + length (drop (k * 8) xs) / 8 = omega (arith, length-drop (k * 8) xs) in
    ap (λ (m : ℕ). cut m xs) n ∙ cut_more k _ xs

-- what blocks that are written leave before and after them
module _ (xs : List ℕ) (i : ℕ) (bs : List Block) (l : i + length bs * 8 ≤ length xs) where
  front_long : length (take i xs ++ bytes bs) ≡ i + length bs * 8
  front_long = omega (arith, length-append (take i xs) (bytes bs), length-take-le i xs (omega (arith, l)), length_bytes bs)

  grouped : with_blocks xs i bs ≡ (take i xs ++ bytes bs) ++ drop (i + length bs * 8) xs
  grouped = sym (append_assoc (take i xs) (bytes bs) (drop (i + length bs * 8) xs))

  pub front_of : take (i + length bs * 8) (with_blocks xs i bs) ≡ take i xs ++ bytes bs
  front_of = ap (take (i + length bs * 8)) grouped ∙ take_at _ (drop (i + length bs * 8) xs) _ front_long

  pub rest_of : drop (i + length bs * 8) (with_blocks xs i bs) ≡ drop (i + length bs * 8) xs
  rest_of = ap (drop (i + length bs * 8)) grouped ∙ drop_at (take i xs ++ bytes bs) (drop (i + length bs * 8) xs) _ front_long

  pub length_kept : length (with_blocks xs i bs) ≡ length xs
  length_kept = ap length grouped ∙ omega (arith, length-append (take i xs ++ bytes bs) (drop (i + length bs * 8) xs), front_long, length-drop (i + length bs * 8) xs, l)

-- no block
pub with_none : (xs : List ℕ) (i : ℕ) → with_blocks xs i [] ≡ xs
with_none xs i = ap (λ (k : ℕ). take i xs ++ drop k xs) (omega arith) ∙ take-append-drop i xs

-- one block more
pub write_more : (xs : List ℕ) (i j : ℕ) (bs : List Block) (b : Block) → j ≡ i + length bs * 8 → j + 8 ≤ length xs
    → with_block (with_blocks xs i bs) j b ≡ with_blocks xs i (bs ++ b ∷ [])
write_more xs i j bs b e l =
    let at = i + length bs * 8 in
    let on = length (bs ++ b ∷ []) in
    let w = with_blocks xs i bs in
    let fits : at ≤ length xs = omega (arith, e, l) in
    let n : at + 8 ≡ i + on * 8 = omega (arith, length-append bs (b ∷ [])) in
    ap (λ (k : ℕ). with_block w k b) e
    ∙ ap (λ (f : List ℕ). f ++ (bytes_of b ++ drop (at + 8) w)) (front_of xs i bs fits)
    ∙ ap (λ (r : List ℕ). (take i xs ++ bytes bs) ++ (bytes_of b ++ r)) (sym (drop-drop 8 at w) ∙ ap (drop 8) (rest_of xs i bs fits) ∙ drop-drop 8 at xs)
    ∙ append_assoc (take i xs) (bytes bs) (bytes_of b ++ drop (at + 8) xs)
    ∙ ap (λ (l : List ℕ). take i xs ++ l) (sym (append_assoc (bytes bs) (bytes_of b) (drop (at + 8) xs)))
    ∙ ap (λ (l : List ℕ). take i xs ++ (l ++ drop (at + 8) xs)) (sym (bytes-++ bs (b ∷ [])))
    ∙ ap (λ (k : ℕ). take i xs ++ (bytes (bs ++ b ∷ []) ++ drop k xs)) n

module _ (f : Block → Block → Step) where
  pub outs-++ : (s : Block) (ps bs : List Block) → outs f s (ps ++ bs) ≡ outs f s ps ++ outs f (after f s ps) bs
  outs-++ s [] bs = refl
  outs-++ s (a ∷ ps) bs = ap (λ (l : List Block). (f s a).out ∷ l) (outs-++ (f s a).chain ps bs)

  pub after-++ : (s : Block) (ps bs : List Block) → after f s (ps ++ bs) ≡ after f (after f s ps) bs
  after-++ s [] bs = refl
  after-++ s (a ∷ ps) bs = after-++ (f s a).chain ps bs

  pub length_outs : (s : Block) (bs : List Block) → length (outs f s bs) ≡ length bs
  length_outs s [] = refl
  length_outs s (b ∷ bs) = ap suc (length_outs (f s b).chain bs)

  -- of a run from s over `entry`: the chain is c and the buffer xs once the bytes below i are done
  pub record Sofar (s : Block) (entry : List ℕ) (c : Block) (xs : List ℕ) (i : ℕ) : Type 0 where
    pub within : i ≤ length xs
    pub texts : bytes (outs f s (blocks entry)) ≡ take i xs ++ bytes (outs f c (blocks (drop i xs)))
    pub chained : after f s (blocks entry) ≡ after f c (blocks (drop i xs))

  pub sofar_none : (s : Block) (xs : List ℕ) → Sofar s xs s xs 0
  sofar_none s xs = record { within = omega arith; texts = refl; chained = refl }

  -- the first k of the blocks that are left are written, and d is the chain after them
  pub sofar_more : (s : Block) (entry : List ℕ) (c d : Block) (xs ys : List ℕ) (i k : ℕ) (os : List Block) → Sofar s entry c xs i → i + k * 8 ≤ length xs
      → os ≡ outs f c (cut k (drop i xs)) → d ≡ after f c (cut k (drop i xs)) → ys ≡ with_blocks xs i os → Sofar s entry d ys (i + k * 8)
  sofar_more s entry c d xs ys i k os h l o e w =
      let gs = cut k (drop i xs) in
      let rest = blocks (drop (i + k * 8) xs) in
      let long : length os ≡ k = ap length o ∙ length_outs c gs ∙ length_cut k (drop i xs) in
      let fits : i + length os * 8 ≤ length xs = omega (arith, long, l) in
      let to : i + length os * 8 ≡ i + k * 8 = omega (arith, long) in
      let head : take (i + k * 8) ys ≡ take i xs ++ bytes os = ap (λ (n : ℕ). take n ys) (sym to) ∙ ap (take (i + length os * 8)) w ∙ front_of xs i os fits in
      let tail : drop (i + k * 8) ys ≡ drop (i + k * 8) xs = ap (λ (n : ℕ). drop n ys) (sym to) ∙ ap (drop (i + length os * 8)) w ∙ rest_of xs i os fits ∙ ap (λ (n : ℕ). drop n xs) to in
      let split : blocks (drop i xs) ≡ gs ++ rest
      = blocks_after k (drop i xs) (omega (arith, length-drop i xs, l)) ∙ ap (λ (z : List ℕ). gs ++ blocks z) (drop-drop (k * 8) i xs) in
      record {
        within = omega (arith, ap length w, length_kept xs i os fits, l);
        texts =
            h.texts ∙ ap (λ (bs : List Block). take i xs ++ bytes (outs f c bs)) split
            ∙ ap (λ (bs : List Block). take i xs ++ bytes bs) (outs-++ c gs rest)
            ∙ ap (λ (z : List ℕ). take i xs ++ z) (bytes-++ (outs f c gs) (outs f (after f c gs) rest))
            ∙ ap (λ (bs : List Block). take i xs ++ (bytes bs ++ bytes (outs f (after f c gs) rest))) (sym o)
            ∙ ap (λ (b : Block). take i xs ++ (bytes os ++ bytes (outs f b rest))) (sym e)
            ∙ sym (append_assoc (take i xs) (bytes os) (bytes (outs f d rest)))
            ∙ ap (λ (z : List ℕ). z ++ bytes (outs f d rest)) (sym head)
            ∙ ap (λ (z : List ℕ). take (i + k * 8) ys ++ bytes (outs f d (blocks z))) (sym tail);
        chained =
            h.chained ∙ ap (after f c) split ∙ after-++ c gs rest ∙ ap (λ (b : Block). after f b rest) (sym e)
            ∙ ap (λ (z : List ℕ). after f d (blocks z)) (sym tail);
      }

  pub sofar_all : (s : Block) (entry : List ℕ) (c : Block) (xs : List ℕ) (i : ℕ) → Sofar s entry c xs i → length xs ≤ i → Ran f s entry c xs
  sofar_all s entry c xs i h l =
      let none = drop_all i xs l in (
        sym (h.texts ∙ ap (λ (r : List ℕ). take i xs ++ bytes (outs f c (blocks r))) none ∙ append-nil (take i xs) ∙ take_all i xs l),
        sym (h.chained ∙ ap (λ (r : List ℕ). after f c (blocks r)) none),
      )

  -- one block in place
  pub sofar_turn : (s : Block) (entry : List ℕ) (c : Block) (xs ys : List ℕ) (i : ℕ) (done : Step) → Sofar s entry c xs i → i + 8 ≤ length xs
      → done ≡ f c (block_at xs i) → ys ≡ with_block xs i done.out → Sofar s entry done.chain ys (i + 8)
  sofar_turn s entry c xs ys i done h l e w =
      let at : done ≡ f c (block_at (drop i xs) 0) = e ∙ ap (f c) (sym (at_drop xs i)) in
      sofar_more s entry c done.chain xs ys i 1 (done.out ∷ []) h l
      (ap (λ (d : Step). d.out ∷ []) at) (ap (λ (d : Step). d.chain) at) w
