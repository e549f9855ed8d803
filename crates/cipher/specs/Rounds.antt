-- Rounds one after the other, and the way back through them.
--   rounds f n b      f 0, then f 1, up to f (n - 1)
--   unrounds g n b    g (n - 1) first, down to g 0
use Rattle.std.specs.Prelude.{ℕ, zero, suc}

abbrev pub rounds : {X : Type 0} → (ℕ → X → X) → ℕ → X → X
rounds f zero b = b
rounds f (suc n) b = f n (rounds f n b)

abbrev pub unrounds : {X : Type 0} → (ℕ → X → X) → ℕ → X → X
unrounds g zero b = b
unrounds g (suc n) b = unrounds g n (g n b)
