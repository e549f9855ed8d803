-- The register's law after one place changes.
use Rattle.std.proofs.Common.{◌≡◌, ℕ, zero, suc, ◌<◌, ◌≤◌, Bool, true, false, ◌⊎◌, List, [], ◌∷◌, length, get_or, set, Some, None, sym, refl, ap, ◌∙◌, subst, inl, inr, ⊎_elim, arith}
use mathlib.Core.Logic.{∥∥₁_map}
use Rattle.std.proofs.lemmas.List.{get_or-set_same, get_or-set_other}
use Rattle.std.proofs.lemmas.Bool.{cases_Bool, cases_eq, cases_lt, both_ways, eq-eqb, ne_eqb, eqb-true}
use Rattle.curve.specs.Curves.{Curve}
use Rattle.register.specs.declared.place.Place.{Place}
use Rattle.register.specs.declared.place.PlaceState.{PlaceState}
use Rattle.register.specs.declared.place.PlaceState.TheVariants.{Free, InForce}
use Rattle.register.specs.Places.{held, bears, is_free_place, curve_of, blank, once}
use Rattle.register.specs.Soundness.{Sound}
use Rattle.register.proofs.Changes.{held-some, held_here, held_other, held_gone, once_here, once_other, once_tail, once_rest}

free_bears : (s : PlaceState) (m : ℕ) → is_free_place s ≡ true → bears s m ≡ false
free_bears Free m e = refl
free_bears (InForce n) m e = grind arith

bears_own : (s : PlaceState) (n : ℕ) → s ≡ InForce n → bears s n ≡ true
bears_own s n e = rw e (eq-eqb n n refl)

bears_other : (s : PlaceState) (n m : ℕ) → s ≡ InForce n → (m ≡ n → ⊥) → bears s m ≡ false
bears_other s n m e h = rw e (ne_eqb n m (λ q. h (sym q)))

bears_free : (s : PlaceState) (m : ℕ) → s ≡ Free → bears s m ≡ false
bears_free s m e = rw e

module _ (ps : List Place) (i n : ℕ) (p : Place) (free : is_free_place (get_or ps i blank).state ≡ true) (none : held ps n ≡ None) (own : p.state ≡ InForce n) where
  pub placed_here : i < length ps → held (set ps i p) n ≡ Some (curve_of p)
  placed_here h = held_here ps i n p h (bears_own p.state n own) none

  pub placed_others : (m : ℕ) → (m ≡ n → ⊥) → held (set ps i p) m ≡ held ps m
  placed_others m ne = held_other ps i m p (free_bears _ m free) (bears_other p.state n m own ne)

  pub placed_once : ((m : ℕ) → once ps m ≡ true) → (m : ℕ) → once (set ps i p) m ≡ true
  placed_once a m = ⊎_elim (λ e. rw e (once_here ps i n p none)) (λ ne. once_other ps i m p (a m) (bears_other p.state n m own ne)) (cases_eq m n)

  pub placed_law : i < length ps → (marks : List Bool) → Sound marks n (curve_of p) → ((m : ℕ) (c : Curve) → held ps m ≡ Some c → ∥ Sound marks m c ∥₁) → (m : ℕ) (c : Curve) → held (set ps i p) m ≡ Some c → ∥ Sound marks m c ∥₁
  placed_law h marks s a m c e =
      ⊎_elim
      (λ q. let f : Some c ≡ Some (curve_of p) = sym e ∙ ap (held (set ps i p)) q ∙ placed_here h in let g : c ≡ curve_of p = cc in rw (q, g) (∣ s ∣₁))
      (λ ne. a m c (sym (placed_others m ne) ∙ e))
      (cases_eq m n)

pub held_at : (ps : List Place) (i n : ℕ) → once ps n ≡ true → bears (get_or ps i blank).state n ≡ true → held ps n ≡ Some (curve_of (get_or ps i blank))
held_at [] i n o b = grind arith
held_at (x ∷ xs) zero n o b = rw b
held_at (x ∷ xs) (suc i) n o b =
    ⊎_elim (λ t. absurd (held-some xs i n b (once_tail x xs n t o))) (λ f. rw f (held_at xs i n (once_rest x xs n f o) b)) (cases_Bool (bears x.state n))

-- past the last place nothing is in force
past : (ps : List Place) (i n : ℕ) {X : Type 0} → length ps ≤ i → bears (get_or ps i blank).state n ≡ true → X
past [] i n h b = absurd (both_ways false refl b)
past (x ∷ xs) zero n h b = absurd (omega arith)
past (x ∷ xs) (suc i) n h b = past xs i n (omega arith) b

-- no two places are in force with one number
apart : (ps : List Place) (i j n : ℕ) → once ps n ≡ true → bears (get_or ps i blank).state n ≡ true → bears (get_or ps j blank).state n ≡ true → (i ≡ j → ⊥) → ⊥
apart [] i j n o a b d = both_ways false refl a
apart (x ∷ xs) zero zero n o a b d = d refl
apart (x ∷ xs) zero (suc j) n o a b d = held-some xs j n b (once_tail x xs n a o)
apart (x ∷ xs) (suc i) zero n o a b d = held-some xs i n a (once_tail x xs n b o)
apart (x ∷ xs) (suc i) (suc j) n o a b d =
    ⊎_elim
    (λ t. held-some xs i n a (once_tail x xs n t o))
    (λ f. apart xs i j n (once_rest x xs n f o) a b (λ e. d (ap suc e)))
    (cases_Bool (bears x.state n))

module _ (ps : List Place) (i n : ℕ) (p : Place) (in_use : bears (get_or ps i blank).state n ≡ true) (free : p.state ≡ Free) where
  pub freed_here : once ps n ≡ true → held (set ps i p) n ≡ None
  freed_here o = held_gone ps i n p o in_use (bears_free p.state n free)

  bears_one : (s : PlaceState) (m : ℕ) → bears s n ≡ true → (m ≡ n → ⊥) → bears s m ≡ false
  bears_one Free m b ne = refl
  bears_one (InForce k) m b ne = let e = eqb-true k n b in ne_eqb k m (λ q. ne (sym q ∙ e))

  pub freed_others : (m : ℕ) → (m ≡ n → ⊥) → held (set ps i p) m ≡ held ps m
  freed_others m ne = held_other ps i m p (bears_one (get_or ps i blank).state m in_use ne) (bears_free p.state m free)

  pub freed_once : (m : ℕ) → once ps m ≡ true → once (set ps i p) m ≡ true
  freed_once m o = once_other ps i m p o (bears_free p.state m free)

  -- the place that was in force with the number is free, and it was the only one
  pub freed_free : once ps n ≡ true → (j : ℕ) → bears (get_or ps j blank).state n ≡ true → is_free_place (get_or (set ps i p) j blank).state ≡ true
  freed_free o j b =
      ⊎_elim
      (λ e. rw e (go (cases_lt i (length ps))))
      (λ ne. absurd (apart ps i j n o in_use b (λ q. ne (sym q))))
      (cases_eq j i)
    where
      go : (i < length ps) ⊎ (length ps ≤ i) → is_free_place (get_or (set ps i p) i blank).state ≡ true
      go (inl h) = rw (get_or-set_same ps i p blank h, free)
      go (inr h) = past ps i n h in_use

  pub freed_stays : (j : ℕ) → bears (get_or ps j blank).state n ≡ false → get_or (set ps i p) j blank ≡ get_or ps j blank
  freed_stays j b = get_or-set_other ps i j p blank (λ e. both_ways _ b (subst (λ k. bears (get_or ps k blank).state n ≡ true) (sym e) in_use))

-- a place keeps its count, and so does every other
pub counts_set : (ps : List Place) (i : ℕ) (p : Place) → p.count ≡ (get_or ps i blank).count → (j : ℕ) → (get_or (set ps i p) j blank).count ≡ (get_or ps j blank).count
counts_set [] i p e j = refl
counts_set (x ∷ xs) zero p e zero = e
counts_set (x ∷ xs) zero p e (suc j) = refl
counts_set (x ∷ xs) (suc i) p e zero = refl
counts_set (x ∷ xs) (suc i) p e (suc j) = counts_set xs i p e j

-- the law after a number that is not in force gets a mark, or loses one
pub marked_law : (ps : List Place) (marks : List Bool) (n : ℕ) (b : Bool) → held ps n ≡ None → ((m : ℕ) (c : Curve) → held ps m ≡ Some c → (m ≡ n → ⊥) → ∥ Sound marks m c ∥₁) → (m : ℕ) (c : Curve) → held ps m ≡ Some c → ∥ Sound (set marks n b) m c ∥₁
marked_law ps marks n b none law m c e =
    ⊎_elim
    (λ q. let f : held ps n ≡ Some c = ap (held ps) (sym q) ∙ e in let z : ◌≡◌ {A = ℕ} 0 1 = cc in absurd (omega arith))
    (λ ne. ∥∥₁_map (law m c e ne) (λ s. record { number = s.number; unmarked = get_or-set_other marks n m b false ne ∙ s.unmarked; lawful = s.lawful }))
    (cases_eq m n)
