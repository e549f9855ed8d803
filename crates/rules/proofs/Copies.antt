-- The entries of a register tell what stands there, and a lawful register's list is lawful.
use Rattle.std.proofs.Common.{◌≡◌, ℕ, zero, suc, ◌+◌, ◌<◌, ◌≤◌, ◌⊎◌, List, [], ◌∷◌, ◌++◌, Some, None, Option, sym, refl, ◌∙◌, subst, ap₂, inl, inr, arith}
use native.Mathlib.Decide.{ℕ_discrete, dec_le}
use Rattle.std.proofs.lemmas.Bool.{eq-eqb, ne_eqb}
use Rattle.curve.specs.Curves.{Curve, LawfulCurve}
use Rattle.rules.specs.Registers.{Number, Standing, State, Lawful, one_if, tally, is_curve, in_force, withdrawn}
use Rattle.rules.specs.Bundles.{Entry, LawfulStanding, RisesAbove, curves, LawfulList, told, entry_of, entries_up_to, entries_of}
use Rattle.rules.specs.Laws.{CopyOf}

-- ---- looking a number up

or_else : Option Standing → Option Standing → Option Standing
or_else (Some x) o = Some x
or_else None o = o

told-append : (xs ys : List Entry) (n : ℕ) → told (xs ++ ys) n ≡ or_else (told xs n) (told ys n)
unfolding or_else
told-append [] ys n = refl
told-append (x ∷ xs) ys n = go (ℕ_discrete x.number n) (told-append xs ys n)
  where
    go : Dec (x.number ≡ n) → told (xs ++ ys) n ≡ or_else (told xs n) (told ys n) → told (x ∷ (xs ++ ys)) n ≡ or_else (told (x ∷ xs) n) (told ys n)
    go (yes e) h = let q = eq-eqb x.number n e in rw q
    go (no d) h = let q = ne_eqb x.number n d in rw q h

told_own : (n : ℕ) (o : Option Standing) → told (entry_of n o) n ≡ o
told_own n None = refl
told_own n (Some x) = let q = eq-eqb n n refl in rw q

told_other : (m n : ℕ) (o : Option Standing) → (m ≡ n → ⊥) → told (entry_of m o) n ≡ None
told_other m n None d = refl
told_other m n (Some x) d = let q = ne_eqb m n d in rw q

or_none : (o : Option Standing) → or_else o None ≡ o
unfolding or_else
or_none (Some x) = refl
or_none None = refl

module _ (f : ℕ → Option Standing) where
  told_none : (m n : ℕ) → (n ≡ 0) ⊎ (m < n) → told (entries_up_to f m) n ≡ None
  unfolding entries_up_to or_else
  told_none zero n h = refl
  told_none (suc m) n h =
      told-append (entries_up_to f m) (entry_of (suc m) (f (suc m))) n
      ∙ ap₂ or_else (told_none m n (less h)) (told_other (suc m) n (f (suc m)) (λ e. apart e h))
    where
      less : (n ≡ 0) ⊎ (suc m < n) → (n ≡ 0) ⊎ (m < n)
      less (inl e) = inl e
      less (inr l) = inr (omega arith)

      apart : suc m ≡ n → (n ≡ 0) ⊎ (suc m < n) → ⊥
      apart e (inl z) = omega arith
      apart e (inr l) = omega arith

  told_there : (m n : ℕ) → 1 ≤ n → n ≤ m → told (entries_up_to f m) n ≡ f n
  unfolding entries_up_to or_else
  told_there zero n a b = absurd (omega arith)
  told_there (suc m) n a b = told-append (entries_up_to f m) (entry_of (suc m) (f (suc m))) n ∙ go (ℕ_discrete (suc m) n) (λ l. told_there m n a l)
    where
      go : Dec (suc m ≡ n) → (n ≤ m → told (entries_up_to f m) n ≡ f n) → or_else (told (entries_up_to f m) n) (told (entry_of (suc m) (f (suc m))) n) ≡ f n
      go (yes e) ih = ap₂ or_else (told_none m n (inr (omega arith))) (subst (λ k. told (entry_of k (f k)) n ≡ f n) (sym e) (told_own n (f n)))
      go (no d) ih = ap₂ or_else (ih (omega arith)) (told_other (suc m) n (f (suc m)) d) ∙ or_none (f n)

-- ---- the list is lawful

-- no number above m
Under : ℕ → List Entry → Type 0
Under m [] = Unit {0}
Under m (x ∷ xs) = (x.number ≤ m) × Under m xs

under_more : (m : ℕ) (xs : List Entry) → Under m xs → Under (suc m) xs
unfolding Under
under_more m [] u = tt
under_more m (x ∷ xs) u = (omega (arith, u.0), under_more m xs u.1)

under_push : (m : ℕ) (xs : List Entry) (o : Option Standing) → Under m xs → Under (suc m) (xs ++ entry_of (suc m) o)
unfolding Under
under_push m [] None u = tt
under_push m [] (Some x) u = (omega arith, tt)
under_push m (x ∷ xs) o u = (omega (arith, u.0), under_push m xs o u.1)

LawfulTold : Option Standing → Type 0
LawfulTold None = Unit {0}
LawfulTold (Some x) = LawfulStanding x

rises_push : (b m : ℕ) (xs : List Entry) (o : Option Standing) → b ≤ m → m < 1024 → Under m xs → LawfulTold o → RisesAbove b xs → RisesAbove b (xs ++ entry_of (suc m) o)
unfolding Under LawfulTold
rises_push b m [] None h k u l r = tt
rises_push b m [] (Some x) h k u l r = (omega arith, k, l, tt)
rises_push b m (x ∷ xs) o h k u l r = (r.0, r.1, r.2, rises_push x.number m xs o u.0 k u.1 l r.3)

curves-append : (xs ys : List Entry) → curves (xs ++ ys) ≡ curves xs + curves ys
curves-append [] ys = omega arith
curves-append (x ∷ xs) ys = omega (arith, curves-append xs ys)

curves_entry : (n : ℕ) (o : Option Standing) → curves (entry_of n o) ≡ one_if (is_curve o)
curves_entry n None = refl
curves_entry n (Some (in_force c)) = refl
curves_entry n (Some withdrawn) = refl

module _ (f : ℕ → Option Standing) where
  under : (m : ℕ) → Under m (entries_up_to f m)
  unfolding entries_up_to Under
  under zero = tt
  under (suc m) = under_push m (entries_up_to f m) (f (suc m)) (under m)

  rises : ((n : ℕ) → LawfulTold (f n)) → (m : ℕ) → m ≤ 1024 → RisesAbove 0 (entries_up_to f m)
  unfolding entries_up_to
  rises l zero h = tt
  rises l (suc m) h = rises_push 0 m (entries_up_to f m) (f (suc m)) (omega arith) h (under m) (l (suc m)) (rises l m (omega arith))

  curves-tally : (m : ℕ) → curves (entries_up_to f m) ≡ tally (λ n. is_curve (f n)) m
  unfolding entries_up_to tally
  curves-tally zero = refl
  curves-tally (suc m) = curves-append (entries_up_to f m) (entry_of (suc m) (f (suc m))) ∙ ap₂ ◌+◌ (curves-tally m) (curves_entry (suc m) (f (suc m)))

lawful_told : (s : State) → Lawful s → (n : ℕ) → LawfulTold (s.standing n)
unfolding LawfulTold
lawful_told s L n = go (s.standing n) (λ c e. L.curves n c e)
  where
    go : (o : Option Standing) → ((c : Curve) → o ≡ Some (in_force c) → LawfulCurve c) → LawfulTold o
    go None h = tt
    go (Some (in_force c)) h = h c refl
    go (Some withdrawn) h = tt

pub entries_lawful : (s : State) → Lawful s → LawfulList (entries_of s)
entries_lawful s L =
    record {
      rising = rises s.standing (lawful_told s L) 1024 (omega arith);
      few = subst (λ k. k ≤ 32) (sym (curves-tally s.standing 1024)) L.places;
    }

pub told_entries : (s : State) → Lawful s → (n : ℕ) → told (entries_of s) n ≡ s.standing n
told_entries s L n = go (dec_le 1 n) (dec_le n 1024)
  where
    go : Dec (1 ≤ n) → Dec (n ≤ 1024) → told (entries_of s) n ≡ s.standing n
    go (yes a) (yes b) = told_there s.standing 1024 n a b
    go (no a) d = told_none s.standing 1024 n (inl (omega (arith, a))) ∙ sym (L.outside n (λ k. a k.0))
    go (yes a) (no b) = told_none s.standing 1024 n (inr (omega (arith, b))) ∙ sym (L.outside n (λ k. b k.1))

pub copy_of : CopyOf
copy_of s L = (entries_lawful s L, told_entries s L)

-- outside 1 to 1,024 a lawful list tells nothing
told_low : (b : ℕ) (xs : List Entry) (n : ℕ) → RisesAbove b xs → (n ≤ b) ⊎ (1024 < n) → told xs n ≡ None
told_low b [] n r h = refl
told_low b (x ∷ xs) n r h = let q = ne_eqb x.number n (λ e. apart e h) in rw q (told_low x.number xs n r.3 (less h))
  where
    apart : x.number ≡ n → (n ≤ b) ⊎ (1024 < n) → ⊥
    apart e (inl l) = omega (arith, r.0, e)
    apart e (inr l) = omega (arith, r.1, e)

    less : (n ≤ b) ⊎ (1024 < n) → (n ≤ x.number) ⊎ (1024 < n)
    less (inl l) = inl (omega (arith, r.0))
    less (inr l) = inr l

pub told_outside : (xs : List Entry) → LawfulList xs → (n : ℕ) → (Number n → ⊥) → told xs n ≡ None
told_outside xs L n o = go (dec_le 1 n) (dec_le n 1024)
  where
    go : Dec (1 ≤ n) → Dec (n ≤ 1024) → told xs n ≡ None
    go (yes a) (yes b) = absurd (o (a, b))
    go (no a) d = told_low 0 xs n L.rising (inl (omega (arith, a)))
    go (yes a) (no b) = told_low 0 xs n L.rising (inr (omega (arith, b)))

-- each curve that a lawful list tells is lawful
told_rising : (b : ℕ) (xs : List Entry) (n : ℕ) (c : Curve) → RisesAbove b xs → told xs n ≡ Some (in_force c) → LawfulCurve c
told_rising b [] n c r h = absurd (let z : ◌≡◌ {A = ℕ} 0 1 = cc h in omega arith)
told_rising b (x ∷ xs) n c r h = go (ℕ_discrete x.number n) (λ k. told_rising x.number xs n c r.3 k)
  where
    go : Dec (x.number ≡ n) → (told xs n ≡ Some (in_force c) → LawfulCurve c) → LawfulCurve c
    go (yes e) ih =
        let q = eq-eqb x.number n e in
        let k : ◌≡◌ {A = Option Standing} (Some x.standing) (Some (in_force c)) = rw q at h in
        let m : x.standing ≡ in_force c = cc k in
        subst LawfulStanding m r.2
    go (no d) ih = let q = ne_eqb x.number n d in ih (rw q at h)

pub told_lawful : (xs : List Entry) → LawfulList xs → (n : ℕ) (c : Curve) → told xs n ≡ Some (in_force c) → LawfulCurve c
told_lawful xs L n c h = told_rising 0 xs n c L.rising h
