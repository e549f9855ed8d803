-- One place of the table changes.
use Rattle.std.proofs.Common.{◌≡◌, ℕ, zero, suc, ◌<◌, Bool, true, false, cond, not, List, [], ◌∷◌, length, get_or, set, is_some, Some, None, Option, refl, ⊎_elim, arith}
use Rattle.std.proofs.lemmas.Bool.{cases_Bool}
use Rattle.register.specs.declared.place.Place.{Place}
use Rattle.curve.specs.Curves.{Curve}
use Rattle.register.specs.Places.{held, bears, curve_of, blank, once}

-- a look-up that finds nothing in a list finds nothing in its parts
none-head : (b : Bool) (c : Curve) (o : Option Curve) → cond b (Some c) o ≡ None → b ≡ false
none-head true c o e = grind arith
none-head false c o e = refl

none_tail : (b : Bool) (c : Curve) (o : Option Curve) → cond b (Some c) o ≡ None → o ≡ None
none_tail true c o e = grind arith
none_tail false c o e = e

head_not : (x : Place) (xs : List Place) (n : ℕ) → held (x ∷ xs) n ≡ None → bears x.state n ≡ false
head_not x xs n e = none-head (bears x.state n) (curve_of x) (held xs n) e

tail_none : (x : Place) (xs : List Place) (n : ℕ) → held (x ∷ xs) n ≡ None → held xs n ≡ None
tail_none x xs n e = none_tail (bears x.state n) (curve_of x) (held xs n) e

pub held-some : (ps : List Place) (i n : ℕ) → bears (get_or ps i blank).state n ≡ true → held ps n ≡ None → ⊥
held-some [] i n b e = grind arith
held-some (x ∷ xs) zero n b e = let h = head_not x xs n e in grind arith
held-some (x ∷ xs) (suc i) n b e = held-some xs i n b (tail_none x xs n e)

pub held_here : (ps : List Place) (i n : ℕ) (p : Place) → i < length ps → bears p.state n ≡ true → held ps n ≡ None → held (set ps i p) n ≡ Some (curve_of p)
held_here [] i n p h b e = absurd (omega arith)
held_here (x ∷ xs) zero n p h b e = rw b
held_here (x ∷ xs) (suc i) n p h b e = rw (head_not x xs n e) (held_here xs i n p (omega arith) b (tail_none x xs n e))

pub held_other : (ps : List Place) (i m : ℕ) (p : Place) → bears (get_or ps i blank).state m ≡ false → bears p.state m ≡ false → held (set ps i p) m ≡ held ps m
held_other [] i m p b e = refl
held_other (x ∷ xs) zero m p b e = rw (b, e)
held_other (x ∷ xs) (suc i) m p b e = rw (held_other xs i m p b e)

pub held_still_none : (ps : List Place) (i m : ℕ) (p : Place) → held ps m ≡ None → bears p.state m ≡ false → held (set ps i p) m ≡ None
held_still_none [] i m p e b = refl
held_still_none (x ∷ xs) zero m p e b = rw b (tail_none x xs m e)
held_still_none (x ∷ xs) (suc i) m p e b = rw (head_not x xs m e) (held_still_none xs i m p (tail_none x xs m e) b)

none_from : (o : Option Curve) → not (is_some o) ≡ true → o ≡ None
none_from None e = refl
none_from (Some c) e = grind arith

not_some : (o : Option Curve) → o ≡ None → not (is_some o) ≡ true
not_some o e = rw e

pub once_tail : (x : Place) (xs : List Place) (n : ℕ) → bears x.state n ≡ true → once (x ∷ xs) n ≡ true → held xs n ≡ None
once_tail x xs n b e = none_from (held xs n) (rw b at e)

pub once_rest : (x : Place) (xs : List Place) (n : ℕ) → bears x.state n ≡ false → once (x ∷ xs) n ≡ true → once xs n ≡ true
once_rest x xs n b e = rw b at e

pub held_gone : (ps : List Place) (i n : ℕ) (p : Place) → once ps n ≡ true → bears (get_or ps i blank).state n ≡ true → bears p.state n ≡ false → held (set ps i p) n ≡ None
held_gone [] i n p a b e = refl
held_gone (x ∷ xs) zero n p a b e = rw e (once_tail x xs n b a)
held_gone (x ∷ xs) (suc i) n p a b e = ⊎_elim (λ t. absurd (held-some xs i n b (once_tail x xs n t a))) (λ f. rw f (held_gone xs i n p (once_rest x xs n f a) b e)) (cases_Bool (bears x.state n))

pub once-none : (ps : List Place) (n : ℕ) → held ps n ≡ None → once ps n ≡ true
once-none [] n e = refl
once-none (x ∷ xs) n e = rw (head_not x xs n e) (once-none xs n (tail_none x xs n e))

-- a place that takes a number that was not in force
pub once_here : (ps : List Place) (i n : ℕ) (p : Place) → held ps n ≡ None → once (set ps i p) n ≡ true
once_here [] i n p e = refl
once_here (x ∷ xs) zero n p e =
    ⊎_elim (λ t. rw t (not_some (held xs n) (tail_none x xs n e))) (λ f. rw f (once-none xs n (tail_none x xs n e))) (cases_Bool (bears p.state n))
once_here (x ∷ xs) (suc i) n p e = rw (head_not x xs n e) (once_here xs i n p (tail_none x xs n e))

-- a place that does not bear the number, before or after or only after
pub once_other : (ps : List Place) (i m : ℕ) (p : Place) → once ps m ≡ true → bears p.state m ≡ false → once (set ps i p) m ≡ true
once_other [] i m p a b = refl
once_other (x ∷ xs) zero m p a b = rw b (⊎_elim (λ t. once-none xs m (once_tail x xs m t a)) (λ f. once_rest x xs m f a) (cases_Bool (bears x.state m)))
once_other (x ∷ xs) (suc i) m p a b =
    ⊎_elim (λ t. rw t (not_some (held (set xs i p) m) (held_still_none xs i m p (once_tail x xs m t a) b))) (λ f. rw f (once_other xs i m p (once_rest x xs m f a) b)) (cases_Bool (bears x.state m))
