-- A vector against one number in every lane.
use Rattle.std.proofs.Common.{◌≡◌, ℕ, ◌<◌, List, length, get_or, replicate, ap, ◌∙◌, arith}
use Rattle.std.proofs.lemmas.Simd.{get_or-zip2, get_or-replicate, length-replicate}
use Rattle.std.specs.Simd.Lanes.{zip2}

pub by_one : (f : ℕ → ℕ → ℕ) (xs : List ℕ) (n y k : ℕ) → length xs ≡ n → k < n
    → get_or (zip2 f xs (replicate n y)) k 0 ≡ f (get_or xs k 0) y
by_one f xs n y k e h =
    get_or-zip2 f xs (replicate n y) k 0 0 0 (omega arith) (omega (arith, length-replicate n y))
    ∙ ap (f (get_or xs k 0)) (get_or-replicate n k y 0 h)
