-- A line is its blanks, its first word and the rest.
use Rattle.std.proofs.Common.{◌≡◌, Option, Some, None, MatchOption, unwrap_or, ℕ, zero, suc, ◌<◌, ◌≤◌, Bool, true, false, cond, eqb, List, [], ◌∷◌, ◌++◌, length, get_or, take, drop, sym, refl, ap, ◌∙◌, arith}
use Rattle.std.specs.List.{AllWithin, HoldsAt}
use Rattle.std.proofs.lemmas.List.{append-nil, get_or-drop, length-drop, drop_all}
use Rattle.std.proofs.lemmas.Bool.Decides.{nat_tests}
use Rattle.script.specs.Words.{blank, solid, longer, pieces, some, words}

no_comment : (c : ℕ) → blank c ≡ true → eqb c 35 ≡ false
no_comment c h = grind (arith, nat_tests)

solid_no_comment : (c : ℕ) → solid c ≡ true → eqb c 35 ≡ false
solid_no_comment c h = grind (arith, nat_tests)

solid_no_blank : (c : ℕ) → solid c ≡ true → blank c ≡ false
solid_no_blank c h = grind (arith, nat_tests)

-- a blank in front changes no word
words-blank : (c : ℕ) (cs : List ℕ) → blank c ≡ true → words (c ∷ cs) ≡ words cs
unfolding words pieces some
words-blank c cs h =
    ap (λ b. some (cond b ([] ∷ []) (cond (blank c) ([] ∷ pieces cs) (longer c (pieces cs))))) (no_comment c h)
    ∙ ap (λ b. some (cond b ([] ∷ pieces cs) (longer c (pieces cs)))) h

pub words_skip : (n : ℕ) (xs : List ℕ) → n ≤ length xs → ((k : ℕ) → k < n → blank (get_or xs k 0) ≡ true) → words xs ≡ words (drop n xs)
words_skip zero xs l h = refl
words_skip (suc n) [] l h = refl
words_skip (suc n) (x ∷ xs) l h =
    words-blank x xs (h 0 (omega arith)) ∙ words_skip n xs (omega (arith, l)) (λ k b. h (suc k) (omega (arith, b)))

-- where a line begins with neither a blank nor a byte of a word, it has no words
pub words-none : (xs : List ℕ) → (0 < length xs → blank (get_or xs 0 0) ≡ false) → (0 < length xs → solid (get_or xs 0 0) ≡ false) → words xs ≡ []
unfolding words pieces some
words-none [] h k = refl
words-none (x ∷ xs) h k =
    let b = h (omega arith) in
    let s = k (omega arith) in
    let e : eqb x 35 ≡ true = comment x b s in
    ap (λ t. some (cond t ([] ∷ []) (cond (blank x) ([] ∷ pieces xs) (longer x (pieces xs))))) e
  where
    comment : (c : ℕ) → blank c ≡ false → solid c ≡ false → eqb c 35 ≡ true
    comment c p q = grind (arith, nat_tests)

-- a word in front of the first piece
ahead : List ℕ → List (List ℕ) → List (List ℕ)
ahead w [] = w ∷ []
ahead w (p ∷ ps) = (w ++ p) ∷ ps

longer_ahead : (c : ℕ) (w : List ℕ) (ps : List (List ℕ)) → longer c (ahead w ps) ≡ ahead (c ∷ w) ps
unfolding ahead
longer_ahead c w [] = refl
longer_ahead c w (p ∷ ps) = refl

longer-none : (c : ℕ) (ps : List (List ℕ)) → longer c ps ≡ ahead (c ∷ []) ps
unfolding ahead
longer-none c [] = refl
longer-none c (p ∷ ps) = refl

pieces-solid : (c : ℕ) (cs : List ℕ) → solid c ≡ true → pieces (c ∷ cs) ≡ longer c (pieces cs)
unfolding pieces
pieces-solid c cs h =
    ap (λ b. cond b ([] ∷ []) (cond (blank c) ([] ∷ pieces cs) (longer c (pieces cs)))) (solid_no_comment c h)
    ∙ ap (λ b. cond b ([] ∷ pieces cs) (longer c (pieces cs))) (solid_no_blank c h)

-- the first n bytes belong to one piece
pieces_ahead : (n : ℕ) (c : ℕ) (cs : List ℕ) → n ≤ length cs → ((k : ℕ) → k < suc n → solid (get_or (c ∷ cs) k 0) ≡ true)
    → pieces (c ∷ cs) ≡ ahead (c ∷ take n cs) (pieces (drop n cs))
pieces_ahead zero c cs l h = pieces-solid c cs (h 0 (omega arith)) ∙ longer-none c (pieces cs)
pieces_ahead (suc n) c [] l h = absurd (omega (arith, l))
pieces_ahead (suc n) c (d ∷ cs) l h =
    pieces-solid c (d ∷ cs) (h 0 (omega arith))
    ∙ ap (longer c) (pieces_ahead n d cs (omega (arith, l)) (λ k b. h (suc k) (omega (arith, b))))
    ∙ longer_ahead c (d ∷ take n cs) (pieces (drop n cs))

-- what no byte of a word begins has an empty first piece, which is no word
some_ahead : (c : ℕ) (w xs : List ℕ) → (0 < length xs → solid (get_or xs 0 0) ≡ false) → some (ahead (c ∷ w) (pieces xs)) ≡ (c ∷ w) ∷ words xs
unfolding words pieces some ahead
some_ahead c w [] h = ap (λ v. (c ∷ v) ∷ []) (append-nil w)
some_ahead c w (x ∷ xs) h = by (eqb x 35) (blank x) refl refl
  where
    apart : (y : ℕ) → solid y ≡ false → eqb y 35 ≡ false → blank y ≡ false → ◌≡◌ {A = ℕ} 0 1
    apart y p q r = grind (arith, nat_tests)

    by : (s t : Bool) → eqb x 35 ≡ s → blank x ≡ t
        → some (ahead (c ∷ w) (cond s ([] ∷ []) (cond t ([] ∷ pieces xs) (longer x (pieces xs)))))
        ≡ (c ∷ w) ∷ some (cond s ([] ∷ []) (cond t ([] ∷ pieces xs) (longer x (pieces xs))))
    by true t p q = ap (λ v. (c ∷ v) ∷ []) (append-nil w)
    by false true p q = ap (λ v. (c ∷ v) ∷ some (pieces xs)) (append-nil w)
    by false false p q = absurd (omega (arith, apart x (h (omega arith)) p q))

-- a line that begins with n bytes of a word and no more
pub words_first : (n : ℕ) (xs : List ℕ) → 0 < n → n ≤ length xs → ((k : ℕ) → k < n → solid (get_or xs k 0) ≡ true)
    → (n < length xs → solid (get_or xs n 0) ≡ false) → words xs ≡ take n xs ∷ words (drop n xs)
unfolding words
words_first zero xs o l h f = absurd (omega (arith, o))
words_first (suc n) [] o l h f = absurd (omega (arith, l))
words_first (suc n) (c ∷ cs) o l h f =
    ap some (pieces_ahead n c cs (omega (arith, l)) h)
    ∙ some_ahead c (take n cs) (drop n cs) (λ b. ap solid (get_or-drop n cs 0 0 ∙ ap (λ k. get_or cs k 0) (omega arith)) ∙ f (omega (arith, b, length-drop n cs)))

-- a line of blanks alone
pub words_blanks : (xs : List ℕ) → AllWithin (λ c. blank c ≡ true) xs 0 (length xs) → words xs ≡ []
words_blanks xs h =
    words_skip (length xs) xs (omega arith) (λ k l. h k 0 (omega arith) l) ∙ ap words (drop_all (length xs) xs (omega arith))
    ∙ words-none [] (λ l. absurd (omega (arith, l))) (λ l. absurd (omega (arith, l)))

-- how many bytes of a word a line begins with, by the first that is none
pub record Run (xs : List ℕ) (n : ℕ) : Type 0 where
  pub within : n ≤ length xs
  pub before : (k : ℕ) → k < n → solid (get_or xs k 0) ≡ true
  pub found : n < length xs → solid (get_or xs n 0) ≡ false

pub run_of : (o : Option ℕ) (xs : List ℕ)
    → MatchOption o (AllWithin (λ c. solid c ≡ true) xs 0 (length xs))
    (λ i. (i < length xs) × HoldsAt (λ c. solid c ≡ false) xs i × AllWithin (λ c. solid c ≡ true) xs 0 i)
    → Run xs (unwrap_or o (length xs))
run_of None xs h = record { within = omega arith; before = λ k l. h k 0 (omega arith) l; found = λ l. absurd (omega (arith, l)) }
run_of (Some i) xs h = record { within = omega (arith, h.0); before = λ k l. h.2 k 0 (omega arith) l; found = λ _. h.1 0 }

-- a line behind its blanks, of which there are b
module _ (line xs : List ℕ) (b : ℕ) (is : xs ≡ drop b line)
    (blanks : (b < length line) × HoldsAt (λ c. blank c ≡ false) line b × AllWithin (λ c. blank c ≡ true) line 0 b) where
  skipped : words line ≡ words xs
  skipped = words_skip b line (omega (arith, blanks.0)) (λ k l. blanks.2 k 0 (omega arith) l) ∙ ap words (sym is)

  pub word_none : (n : ℕ) → n ≡ 0 → Run xs n → words line ≡ []
  word_none n e r =
      let first : get_or xs 0 0 ≡ get_or line b 0 = ap (λ ys. get_or ys 0 0) is ∙ get_or-drop b line 0 0 ∙ ap (λ k. get_or line k 0) (omega arith) in
      skipped ∙ words-none xs (λ o. ap blank first ∙ blanks.1 0) (λ o. ap (λ k. solid (get_or xs k 0)) (sym e) ∙ r.found (omega (arith, o, e)))

  pub word_first : (n : ℕ) → (n ≡ 0 → ⊥) → Run xs n → words line ≡ take n xs ∷ words (drop n xs)
  word_first n not_none r = skipped ∙ words_first n xs (omega (arith, not_none)) r.within r.before r.found
