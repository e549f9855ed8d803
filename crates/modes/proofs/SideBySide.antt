-- Eight blocks at a time, each with the one before it. Assumes nothing.
use Rattle.std.proofs.Common.{◌≡◌, ℕ, zero, suc, ◌+◌, ◌*◌, ◌<◌, ◌≤◌, List, [], ◌∷◌, length, map, get_or, drop, sym, refl, ap, ◌∙◌, arith}
use Rattle.std.proofs.lemmas.List.{ext_get_or}
use Rattle.modes.specs.Cmac.{zeros}
use Rattle.cipher.specs.declared.block.Block.{Block}
use Rattle.cipher.specs.Bytes.{block_at}
use Rattle.modes.specs.declared.mode.Step.{Step}
use Rattle.modes.specs.Formulas.{outs, after}
use Rattle.modes.specs.Layout.{cut, with_blocks, blocks, bytes}
use Rattle.modes.specs.Runs.{Ran, before, last, pairwise, by_pairs}
use Rattle.modes.proofs.Pieces.{block-drop, cut_at, length_cut, Sofar, sofar_more}

listed : (a b c d e f g h p q r s t u v w : Block) → a ≡ p → b ≡ q → c ≡ r → d ≡ s → e ≡ t → f ≡ u → g ≡ v → h ≡ w
    → a ∷ b ∷ c ∷ d ∷ e ∷ f ∷ g ∷ h ∷ [] ≡ p ∷ q ∷ r ∷ s ∷ t ∷ u ∷ v ∷ w ∷ []
listed a b c d e f g h p q r s t u v w i j k l m n o x = cc

-- the eight blocks from place i on, by their places
pub eight_from : (xs : List ℕ) (i : ℕ) (a b c d e f g h : Block) → a ≡ block_at xs i → b ≡ block_at xs (i + 8) → c ≡ block_at xs (i + 16) → d ≡ block_at xs (i + 24)
    → e ≡ block_at xs (i + 32) → f ≡ block_at xs (i + 40) → g ≡ block_at xs (i + 48) → h ≡ block_at xs (i + 56)
    → a ∷ b ∷ c ∷ d ∷ e ∷ f ∷ g ∷ h ∷ [] ≡ cut 8 (drop i xs)
eight_from xs i a b c d e f g h p q r s t u v w =
    let at : (k n : ℕ) → n ≡ i + k * 8 → k < 8 → block_at xs n ≡ get_or (cut 8 (drop i xs)) k zeros
    = λ k n m l. ap (block_at xs) m ∙ sym (cut_at 8 k (drop i xs) zeros l ∙ block-drop xs i (k * 8)) in
    let ends : (k : ℕ) (x : Block) (n : ℕ) → x ≡ block_at xs n → n ≡ i + k * 8 → k < 8 → x ≡ get_or (cut 8 (drop i xs)) k zeros
    = λ k x n o m l. o ∙ at k n m l in
    listed a b c d e f g h _ _ _ _ _ _ _ _
    (ends 0 a i p (omega arith) (omega arith)) (ends 1 b (i + 8) q (omega arith) (omega arith)) (ends 2 c (i + 16) r (omega arith) (omega arith))
    (ends 3 d (i + 24) s (omega arith) (omega arith)) (ends 4 e (i + 32) t (omega arith) (omega arith)) (ends 5 f (i + 40) u (omega arith) (omega arith))
    (ends 6 g (i + 48) v (omega arith) (omega arith)) (ends 7 h (i + 56) w (omega arith) (omega arith))

module _ (f : Block → Block → Block) where
  length_pairwise : (cs bs : List Block) → length cs ≡ length bs → length (pairwise f cs bs) ≡ length bs
  length_pairwise [] bs e = e
  length_pairwise (c ∷ cs) [] e = absurd (omega (arith, e))
  length_pairwise (c ∷ cs) (b ∷ bs) e = ap suc (length_pairwise cs bs (omega (arith, e)))

  pairwise_at : (cs bs : List Block) (k : ℕ) (d : Block) → k < length cs → length cs ≡ length bs → get_or (pairwise f cs bs) k d ≡ f (get_or cs k d) (get_or bs k d)
  pairwise_at [] bs k d l e = absurd (omega arith)
  pairwise_at (c ∷ cs) [] k d l e = absurd (omega (arith, e))
  pairwise_at (c ∷ cs) (b ∷ bs) zero d l e = refl
  pairwise_at (c ∷ cs) (b ∷ bs) (suc k) d l e = pairwise_at cs bs k d (omega arith) (omega (arith, e))

  -- what has f of each two of n blocks at its n places is f of each two
  pub pairwise_is : (n : ℕ) (cs bs rs : List Block) → length cs ≡ n → length bs ≡ n → length rs ≡ n
      → ((k : ℕ) → k < n → get_or rs k zeros ≡ f (get_or cs k zeros) (get_or bs k zeros)) → rs ≡ pairwise f cs bs
  pairwise_is n cs bs rs p q r h =
      let same : length cs ≡ length bs = omega (arith, p, q) in
      ext_get_or zeros rs (pairwise f cs bs) (omega (arith, q, r, length_pairwise cs bs same))
      (λ k l. h k (omega (arith, l, r)) ∙ sym (pairwise_at cs bs k zeros (omega (arith, l, r, p)) same))

  pub outs_by_pairs : (s : Block) (bs : List Block) → outs (by_pairs f) s bs ≡ pairwise f (before s bs) bs
  outs_by_pairs s [] = refl
  outs_by_pairs s (b ∷ bs) = ap (λ (l : List Block). f s b ∷ l) (outs_by_pairs b bs)

  pub after_by_pairs : (s : Block) (bs : List Block) → after (by_pairs f) s bs ≡ last s bs
  after_by_pairs s [] = refl
  after_by_pairs s (b ∷ bs) = after_by_pairs b bs

pub length_before : (s : Block) (bs : List Block) → length (before s bs) ≡ length bs
length_before s [] = refl
length_before s (b ∷ bs) = ap suc (length_before b bs)

-- f of each two, where g is taken of the first, or of the second
pub pairwise_map : (f : Block → Block → Block) (g : Block → Block) (cs bs : List Block) → pairwise (λ b c. f (g b) c) bs cs ≡ pairwise f (map g bs) cs
pairwise_map f g cs [] = refl
pairwise_map f g [] (b ∷ bs) = refl
pairwise_map f g (c ∷ cs) (b ∷ bs) = ap (λ (l : List Block). f (g b) c ∷ l) (pairwise_map f g cs bs)

pub pairwise_onto : (f : Block → Block → Block) (g : Block → Block) (cs bs : List Block) → pairwise (λ c b. f c (g b)) cs bs ≡ pairwise f cs (map g bs)
pairwise_onto f g [] bs = refl
pairwise_onto f g (c ∷ cs) [] = refl
pairwise_onto f g (c ∷ cs) (b ∷ bs) = ap (λ (l : List Block). f c (g b) ∷ l) (pairwise_onto f g cs bs)

-- pairs the other way about
pub pairwise_flip : (f : Block → Block → Block) (cs bs : List Block) → length cs ≡ length bs → pairwise f cs bs ≡ pairwise (λ b c. f c b) bs cs
pairwise_flip f [] [] e = refl
pairwise_flip f [] (b ∷ bs) e = absurd (omega (arith, e))
pairwise_flip f (c ∷ cs) [] e = absurd (omega (arith, e))
pairwise_flip f (c ∷ cs) (b ∷ bs) e = ap (λ (l : List Block). f c b ∷ l) (pairwise_flip f cs bs (omega (arith, e)))

-- f of the second of each two
pub pairwise_second : (f : Block → Block) (cs bs : List Block) → length cs ≡ length bs → map f bs ≡ pairwise (λ _ b. f b) cs bs
pairwise_second f [] [] e = refl
pairwise_second f [] (b ∷ bs) e = absurd (omega (arith, e))
pairwise_second f (c ∷ cs) [] e = absurd (omega (arith, e))
pairwise_second f (c ∷ cs) (b ∷ bs) e = ap (λ (l : List Block). f b ∷ l) (pairwise_second f cs bs (omega (arith, e)))

-- eight blocks by their places
pub eight_are : (d : Block) (bs : List Block) → length bs ≡ 8
    → bs ≡ get_or bs 0 d ∷ get_or bs 1 d ∷ get_or bs 2 d ∷ get_or bs 3 d ∷ get_or bs 4 d ∷ get_or bs 5 d ∷ get_or bs 6 d ∷ get_or bs 7 d ∷ []
eight_are d [] e = absurd (omega (arith, e))
eight_are d (a ∷ []) e = absurd (omega (arith, e))
eight_are d (a ∷ b ∷ []) e = absurd (omega (arith, e))
eight_are d (a ∷ b ∷ c ∷ []) e = absurd (omega (arith, e))
eight_are d (a ∷ b ∷ c ∷ p ∷ []) e = absurd (omega (arith, e))
eight_are d (a ∷ b ∷ c ∷ p ∷ q ∷ []) e = absurd (omega (arith, e))
eight_are d (a ∷ b ∷ c ∷ p ∷ q ∷ r ∷ []) e = absurd (omega (arith, e))
eight_are d (a ∷ b ∷ c ∷ p ∷ q ∷ r ∷ t ∷ []) e = absurd (omega (arith, e))
eight_are d (a ∷ b ∷ c ∷ p ∷ q ∷ r ∷ t ∷ u ∷ []) e = refl
eight_are d (a ∷ b ∷ c ∷ p ∷ q ∷ r ∷ t ∷ u ∷ v ∷ bs) e = absurd (omega (arith, e))

module _ (f : Block → Block → Block) where
  -- eight blocks in place: they are read, each is put beside the one before it, and what comes of the pairs is written
  pub sofar_eight : (s : Block) (entry : List ℕ) (c : Block) (xs ys : List ℕ) (i : ℕ) (bs cs os : List Block) (d : Block)
      → Sofar (by_pairs f) s entry c xs i → i + 64 ≤ length xs → bs ≡ cut 8 (drop i xs) → cs ≡ before c bs → os ≡ pairwise f cs bs
      → ys ≡ with_blocks xs i os → Sofar (by_pairs f) s entry (get_or bs 7 d) ys (i + 64)
  sofar_eight s entry c xs ys i bs cs os d h l r b o w =
      let long : length bs ≡ 8 = ap length r ∙ length_cut 8 (drop i xs) in
      sofar_more (by_pairs f) s entry c (get_or bs 7 d) xs ys i 8 os h l
      (o ∙ ap (λ (l : List Block). pairwise f l bs) b ∙ sym (outs_by_pairs f c bs) ∙ ap (outs (by_pairs f) c) r)
      (sym (ap (last c) (eight_are d bs long)) ∙ sym (after_by_pairs f c bs) ∙ ap (after (by_pairs f) c) r) w

-- where a step takes no notice of what it is chained to, and chains the next one to the same, each block becomes what it becomes alone
module _ (E : Block → Block) (f : Block → Block → Step) (h : (c b : Block) → f c b ≡ record { out = E b; chain = c }) where
  outs_alone : (s t : Block) (bs : List Block) → outs (by_pairs (λ c b. E b)) s bs ≡ outs f t bs
  outs_alone s t [] = refl
  outs_alone s t (b ∷ bs) =
      ap (λ (l : List Block). E b ∷ l) (outs_alone b t bs) ∙ ap (λ (d : Step). d.out ∷ outs f d.chain bs) (sym (h t b))

  after_alone : (s : Block) (bs : List Block) → after f s bs ≡ s
  after_alone s [] = refl
  after_alone s (b ∷ bs) = ap (λ (d : Step). after f d.chain bs) (h s b) ∙ after_alone s bs

  pub ran_alone : (s r : Block) (old new : List ℕ) → Ran (by_pairs (λ c b. E b)) s old r new → Ran f s old s new
  ran_alone s r old new done = (done.0 ∙ ap bytes (outs_alone s s (blocks old)), sym (after_alone s (blocks old)))
