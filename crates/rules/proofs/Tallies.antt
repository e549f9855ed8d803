-- How many numbers pass a test, where the test changes.
use Rattle.std.proofs.Common.{◌≡◌, ℕ, zero, suc, ◌+◌, ◌<◌, ◌≤◌, Bool, true, false, ◌⊎◌, refl, ap, ⊎_elim, arith}
use native.Mathlib.Decide.{ℕ_discrete}
use Rattle.rules.specs.Registers.{one_if, tally}

pub true_false : (b : Bool) → b ≡ true → b ≡ false → ⊥
true_false b h k = let z : ◌≡◌ {A = ℕ} 0 1 = cc in omega arith

pub tally_grows : (f g : ℕ → Bool) → ((n : ℕ) → f n ≡ true → g n ≡ true) → (m : ℕ) → tally f m ≤ tally g m
unfolding tally
tally_grows f g h zero = omega arith
tally_grows f g h (suc m) = let ih = tally_grows f g h m in go (f (suc m)) (g (suc m)) (h (suc m)) ih
  where
    go : (a b : Bool) → (a ≡ true → b ≡ true) → tally f m ≤ tally g m → tally f m + one_if a ≤ tally g m + one_if b
    go true true k i = omega arith
    go true false k i = absurd (true_false false (k refl) refl)
    go false true k i = omega arith
    go false false k i = omega arith

one_most : (b : Bool) → one_if b ≤ 1
one_most true = omega arith
one_most false = omega arith

-- two tests that differ at one number
pub tally_one : (f g : ℕ → Bool) (n : ℕ) → ((m : ℕ) → (m ≡ n → ⊥) → f m ≡ g m) → (m : ℕ) → (tally f m ≤ tally g m + 1) × (m < n → tally f m ≡ tally g m)
unfolding tally
tally_one f g n h zero = (omega arith, λ _. refl)
tally_one f g n h (suc m) = let ih = tally_one f g n h m in go ih (ℕ_discrete (suc m) n)
  where
    go : (tally f m ≤ tally g m + 1) × (m < n → tally f m ≡ tally g m) → Dec (suc m ≡ n) → (tally f m + one_if (f (suc m)) ≤ tally g m + one_if (g (suc m)) + 1) × (suc m < n → tally f m + one_if (f (suc m)) ≡ tally g m + one_if (g (suc m)))
    go ih (yes e) = let q : m < n = omega arith in (omega (arith, ih.1 q, one_most (f (suc m))), λ l. absurd (omega arith))
    go ih (no d) = let q : one_if (f (suc m)) ≡ one_if (g (suc m)) = ap one_if (h (suc m) d) in (omega (arith, q, ih.0), λ l. let r : m < n = omega arith in omega (arith, q, ih.1 r))

-- a test that passes only where one of two others does
pub tally_sum : (f g h : ℕ → Bool) → ((n : ℕ) → f n ≡ true → (g n ≡ true) ⊎ (h n ≡ true)) → (m : ℕ) → tally f m ≤ tally g m + tally h m
unfolding tally
tally_sum f g h k zero = omega arith
tally_sum f g h k (suc m) = let ih = tally_sum f g h k m in go (f (suc m)) (g (suc m)) (h (suc m)) (k (suc m)) ih
  where
    go : (a b c : Bool) → (a ≡ true → (b ≡ true) ⊎ (c ≡ true)) → tally f m ≤ tally g m + tally h m → tally f m + one_if a ≤ (tally g m + one_if b) + (tally h m + one_if c)
    go false b c u i = omega arith
    go true true c u i = omega arith
    go true false true u i = omega arith
    go true false false u i = absurd (⊎_elim (λ z. true_false false z refl) (λ z. true_false false z refl) (u refl))

pub tally-none : (m : ℕ) → tally (λ _. false) m ≡ 0
unfolding tally
tally-none zero = refl
tally-none (suc m) = omega (arith, tally-none m)
