-- Neighbours in two lists, as a run over the windows of two of both meets them.
use Rattle.std.proofs.Common.{◌≡◌, ℕ, ◌+◌, ◌<◌, ◌≤◌, Bool, true, false, List, length, get_or, Some, None, Option, Bor, Decides, subst, ◌∙◌, ap, ⊎_elim, refl, arith}
use Rattle.std.proofs.lemmas.Bool.{both_ways}
use Rattle.std.specs.Bool.{MatchBool, IsTrue}
use Rattle.std.specs.List.{IsSubsliceAt}
use Rattle.std.specs.Option.{option_map, IfSome, IsSomeAnd, MatchOption}
use Rattle.std.specs.Iterator.Runs.{Run, IsZipRun, IsWindowsRun}

-- the window of two elements at place k
pub record At {X : Type 0} (xs : List X) (k : ℕ) (w : Bor (List X)) : Type 0 where
  pub enough : k + 1 < length xs
  pub here : (d : X) → get_or w.now 0 d ≡ get_or xs k d
  pub next : (d : X) → get_or w.now 1 d ≡ get_or xs (k + 1) d

module _ {S X : Type 0} {steps : S → Option (Bor (List X)) → S → Type 0} (u : Run steps) (xs : List X) (r : IsWindowsRun u 2 xs) where
  window : (k : ℕ) (w : Bor (List X)) → u.at k ≡ Some w → At xs k w
  window k w e =
      let h = subst (λ o. IfSome o (λ x. (length x.now ≡ 2) × (k + 2 ≤ length xs) × IsSubsliceAt 2 xs k x.now)) e (r.2 k) in
      let z : k + 0 ≡ k = omega arith in
      record { enough = omega (arith, h.1); here = λ d. h.2.2 0 d (omega arith) ∙ ap (λ j. get_or xs j d) z; next = λ d. h.2.2 1 d (omega arith) }

  windows_whole : u.whole ≡ true → (k : ℕ) → k + 1 < length xs → k < u.len
  windows_whole w k h = omega (arith, r.1 w)

-- what `array_windows` says, at the windows of two of a list
pub of_two : {S X : Type 0} {steps : S → Option (Bor (List X)) → S → Type 0} (u : Run steps) (xs rest : List X) (n : ℕ) → (0 < n → IsWindowsRun u n rest) → n ≡ 2 → rest ≡ xs → IsWindowsRun u 2 xs
of_two u xs rest n h e f = subst (λ l. IsWindowsRun u 2 l) f (subst (λ m. IsWindowsRun u m rest) e (h (omega (arith, e))))

module _ {S T U X Y : Type 0} {steps : S → Option (Bor (List X) × Bor (List Y)) → S → Type 0} {lefts : T → Option (Bor (List X)) → T → Type 0} {rights : U → Option (Bor (List Y)) → U → Type 0}
    (p : Run steps) (u : Run lefts) (v : Run rights) (xs : List X) (ys : List Y) (z : IsZipRun p u v) (a : IsWindowsRun u 2 xs) (b : IsWindowsRun v 2 ys) (d : X) where
  abbrev Item : Type 0
  Item = Bor (List X) × Bor (List Y)

  left : (k : ℕ) (w : Item) → p.at k ≡ Some w → At xs k w.0
  left k w e = window u xs a k w.0 (z.0.2 k ∙ ap (option_map (λ x. x.0)) e)

  right : (k : ℕ) (w : Item) → p.at k ≡ Some w → At ys k w.1
  right k w e = window v ys b k w.1 (z.1.2 k ∙ ap (option_map (λ x. x.1)) e)

  -- a run to the end meets each pair of neighbours
  met : p.whole ≡ true → (k : ℕ) → k + 1 < length xs → k + 1 < length ys → k < p.len
  met w k h l =
      ⊎_elim
      (λ e. let m = windows_whole u xs a e k h in omega (arith, m, z.0.0))
      (λ e. let m = windows_whole v ys b e k l in omega (arith, m, z.1.0))
      (z.2 w)

  -- and there is an item at each place below its length
  there : (k : ℕ) → k < p.len → (o : Option Item) → p.at k ≡ o → (w : Item) × (p.at k ≡ Some w)
  there k h (Some w) e = (w, e)
  there k h None e =
      let q = a.3 k d (omega (arith, z.0.0)) in
      let r = z.0.2 k ∙ ap (option_map (λ x. x.0)) e in
      absurd (let n : ◌≡◌ {A = ℕ} 0 1 = cc (q, r) in omega arith)

  module _ (Good : ℕ → Type 0) (Yes No : Item → Type 0) (yes : (k : ℕ) (w : Item) → At xs k w.0 → At ys k w.1 → Yes w → Good k) (no : (k : ℕ) (w : Item) → At xs k w.0 → At ys k w.1 → No w → Good k → ⊥) where
    item_yes : ((k : ℕ) → IfSome (p.at k) Yes) → (k : ℕ) → (w : Item) × (p.at k ≡ Some w) → Good k
    item_yes h k (w, e) = yes k w (left k w e) (right k w e) (subst (λ o. IfSome o Yes) e (h k))

    item_no : (k : ℕ) (o : Option Item) → p.at k ≡ o → IsSomeAnd o No → ((j : ℕ) → j + 1 < length xs → Good j) → ⊥
    item_no k None e h g = elim h [ ]
    item_no k (Some w) e h g = let l = left k w e in no k w l (right k w e) h (g k l.enough)

    -- a call of `all`, of a closure that stays as it was, tells whether all neighbours are good
    pub all_are : {Stays : Type 0} → Stays → length xs ≡ length ys → (r : Bool) → MatchBool r (IsTrue p.whole × (Stays → (k : ℕ) → IfSome (p.at k) Yes)) (Stays → (k : ℕ) × (k < p.len) × IsSomeAnd (p.at k) No)
        → Decides r ((k : ℕ) → k + 1 < length xs → Good k)
    all_are stays same true h = (λ _. (λ k l. item_yes (h.1 stays) k (there k (met h.0 k l (omega arith)) (p.at k) refl)), λ _. refl)
    all_are stays same false h = let i = h stays in (λ e. absurd (both_ways false refl e), λ g. absurd (item_no i.0 (p.at i.0) refl i.2 g))

  module _ (No : ℕ → Type 0) (miss : Item → Type 0) (missed : (k : ℕ) (w : Item) → At xs k w.0 → At ys k w.1 → miss w → No k) where
    item_miss : (k : ℕ) (o : Option Item) → p.at k ≡ o → IsSomeAnd o miss → No k
    item_miss k None e h = elim h [ ]
    item_miss k (Some w) e h = missed k w (left k w e) (right k w e) h

    item_none : ((k : ℕ) → IfSome (p.at k) miss) → (k : ℕ) → (w : Item) × (p.at k ≡ Some w) → No k
    item_none h k (w, e) = missed k w (left k w e) (right k w e) (subst (λ o. IfSome o miss) e (h k))

    module _ {B : Type 0} (hit : Item → B → Type 0) (Hit : ℕ → B → Type 0) (found : (k : ℕ) (w : Item) (y : B) → At xs k w.0 → At ys k w.1 → hit w y → Hit k y) where
      abbrev pub First : B → Type 0
      First y = (k : ℕ) × (k + 1 < length xs) × (k + 1 < length ys) × Hit k y × ((j : ℕ) → j < k → No j)

      item_hit : (y : B) (k : ℕ) (o : Option Item) → p.at k ≡ o → IsSomeAnd o (λ w. hit w y) → ((j : ℕ) → j < k → No j) → First y
      item_hit y k None e h n = elim h [ ]
      item_hit y k (Some w) e h n = let l = left k w e in let r = right k w e in (k, l.enough, r.enough, found k w y l r h, n)

      -- a call of `find_map`, of a closure that stays as it was, answers at the first neighbours that give something
      pub first_is : {Stays : Type 0} → Stays → (r : Option B)
          → MatchOption r (IsTrue p.whole × (Stays → (k : ℕ) → IfSome (p.at k) miss)) (λ y. (k : ℕ) × (k < p.len) × (p.len ≡ k + 1) × (Stays → IsSomeAnd (p.at k) (λ w. hit w y) × ((j : ℕ) → j < k → IsSomeAnd (p.at j) miss)))
          → MatchOption r ((k : ℕ) → k + 1 < length xs → k + 1 < length ys → No k) First
      first_is stays None h = λ k l m. item_none (h.1 stays) k (there k (met h.0 k l m) (p.at k) refl)
      first_is stays (Some y) h = let i = h.3 stays in item_hit y h.0 (p.at h.0) refl i.0 (λ j l. item_miss j (p.at j) refl (i.1 j l))
