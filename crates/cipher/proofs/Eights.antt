-- Lists of blocks, element by element.
use Rattle.std.proofs.Common.{◌≡◌, ℕ, ◌<◌, List, [], ◌∷◌, refl, ap, length, map, get_or, sym, ◌∙◌, arith}
use Rattle.std.proofs.lemmas.List.{same_lists, get_or-map, length-map}
use Rattle.cipher.specs.declared.block.Block.{Block}

-- what has f of each of n blocks at its n places is f of each
pub each_is : (f : Block → Block) (n : ℕ) (xs ys : List Block) → length xs ≡ n → length ys ≡ n
    → ((k : ℕ) (d : Block) → k < n → get_or ys k d ≡ f (get_or xs k d)) → ys ≡ map f xs
each_is f n xs ys p q h =
    same_lists ys (map f xs) (q ∙ sym p ∙ sym (length-map xs f))
    (λ k d lt. let below : k < n = omega (arith, lt, q) in h k d below ∙ sym (get_or-map f xs k d d (omega (arith, below, p))))

-- three functions one after another, over a list
pub in_turn : (f g h : Block → Block) (xs : List Block) → map h (map g (map f xs)) ≡ map (λ x. h (g (f x))) xs
in_turn f g h [] = refl
in_turn f g h (x ∷ xs) = ap (λ ys. h (g (f x)) ∷ ys) (in_turn f g h xs)
