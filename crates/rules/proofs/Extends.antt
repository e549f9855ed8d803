-- A call carries every run on.
use Rattle.std.proofs.Common.{◌≡◌, ℕ, zero, suc, ◌<◌, ◌≤◌, ◌⊎◌, List, [], ◌∷◌, ◌++◌, length, Some, sym, refl, ap, ◌∙◌, subst, subst₂, inl, inr, arith}
use native.Mathlib.Decide.{ℕ_discrete, dec_lt}
use Rattle.std.specs.List.{slice_get}
use Rattle.cipher.specs.declared.block.Block.{Block}
use Rattle.cipher.specs.Blocks.{Inverse}
use Rattle.rules.specs.Registers.{State}
use Rattle.rules.specs.Calls.{Call, Answer, Does}
use Rattle.rules.specs.Runs.{Event, At, Fresh, Step, Run, Promises, GoesOn}
use Rattle.rules.specs.Laws.{EveryRun, EveryCall}
use Rattle.rules.proofs.Promises.{promises}

at_append : (xs : List Event) (y : Event) (p : ℕ) (x : Event) → slice_get (xs ++ (y ∷ [])) p ≡ Some x → ((p < length xs) × (slice_get xs p ≡ Some x)) ⊎ ((p ≡ length xs) × (x ≡ y))
at_append [] y zero x h = inr (refl, cc)
at_append [] y (suc p) x h = absurd (let z : ◌≡◌ {A = ℕ} 0 1 = cc h in omega arith)
at_append (a ∷ xs) y zero x h = inl (omega arith, h)
at_append (a ∷ xs) y (suc p) x h = go (at_append xs y p x h)
  where
    go : ((p < length xs) × (slice_get xs p ≡ Some x)) ⊎ ((p ≡ length xs) × (x ≡ y)) → ((suc p < suc (length xs)) × (slice_get xs p ≡ Some x)) ⊎ ((suc p ≡ suc (length xs)) × (x ≡ y))
    go (inl m) = inl (omega (arith, m.0), m.1)
    go (inr m) = inr (ap suc m.0, m.1)

choose : {A : Type 0} {P : Type 0} → Dec P → A → A → A
choose (yes _) a b = a
choose (no _) a b = b

choose_yes : {A : Type 0} {P : Type 0} (d : Dec P) (a b : A) → P → choose d a b ≡ a
unfolding choose
choose_yes (yes _) a b p = refl
choose_yes (no n) a b p = absurd (n p)

choose_no : {A : Type 0} {P : Type 0} (d : Dec P) (a b : A) → (P → ⊥) → choose d a b ≡ b
unfolding choose
choose_no (yes p) a b n = absurd (n p)
choose_no (no _) a b n = refl

module _ (E1 D1 E2 : Block → Block) (k : Inverse E1 D1) (s t : State) (q : Call) (a : Answer) (lent : List ℕ) (does : Does E1 E2 s q a lent t) (n : ℕ) (log : List Event) (w : ℕ → ℕ → State) (who : ℕ) (R : Run E1 E2 n log w) (known : who < n) (here : w (length log) who ≡ s) where
  e : Event
  e = record { who = who; call = q; answer = a; lent = lent }

  moved : ℕ → State
  moved i = choose (ℕ_discrete i who) t (w (length log) i)

  history : ℕ → ℕ → State
  history p = choose (dec_lt (length log) p) moved (w p)

  early : (p : ℕ) → p ≤ length log → history p ≡ w p
  unfolding history
  early p l = choose_no (dec_lt (length log) p) moved (w p) (λ m. omega arith)

  now : history (suc (length log)) ≡ moved
  unfolding history
  now = choose_yes (dec_lt (length log) (suc (length log))) moved (w (suc (length log))) (omega arith)

  moved_here : moved who ≡ t
  unfolding moved
  moved_here = choose_yes (ℕ_discrete who who) t (w (length log) who) refl

  moved_others : (j : ℕ) → (j ≡ who → ⊥) → moved j ≡ w (length log) j
  unfolding moved
  moved_others j d = choose_no (ℕ_discrete j who) t (w (length log) j) d

  step_now : Step E1 E2 n (w (length log)) e moved
  unfolding e
  step_now = record { known = known; does = subst₂ (λ x y. Does E1 E2 x q a lent y) (sym here) (sym moved_here) does; others = moved_others }

  steps : (p : ℕ) (x : Event) → At (log ++ (e ∷ [])) p x → Step E1 E2 n (history p) x (history (suc p))
  steps p x at = go (at_append log e p x at)
    where
      go : ((p < length log) × (slice_get log p ≡ Some x)) ⊎ ((p ≡ length log) × (x ≡ e)) → Step E1 E2 n (history p) x (history (suc p))
      go (inl m) = subst₂ (λ u v. Step E1 E2 n u x v) (sym (early p (omega (arith, m.0)))) (sym (early (suc p) (omega (arith, m.0)))) (R.steps p x m.1)
      go (inr m) = subst₂ (λ p x. Step E1 E2 n (history p) x (history (suc p))) (sym m.0) (sym m.1) (subst₂ (λ u v. Step E1 E2 n u e v) (sym (early (length log) (omega arith))) (sym now) step_now)

  run : Run E1 E2 n (log ++ (e ∷ [])) history
  run = record { starts = subst (λ u. Fresh n u) (sym (early 0 (omega arith))) R.starts; steps = steps }

  goes_on : GoesOn E1 E2 n log w (record { who = who; call = q; answer = a; lent = lent }) t
  unfolding e
  goes_on = record {
    history = history;
    run = run;
    same = early;
    here = ap (λ u. u who) now ∙ moved_here;
    others = λ j d. ap (λ u. u j) now ∙ moved_others j d;
    promises = promises E1 D1 E2 k n (log ++ (e ∷ [])) history run;
  }

pub every_call : EveryCall
every_call E1 D1 E2 D2 k l s q a lent t does n log w who R known here = goes_on E1 D1 E2 k s t q a lent does n log w who R known here

pub every_run : EveryRun Promises
every_run E1 D1 E2 D2 k l n log w R = promises E1 D1 E2 k n log w R
