-- Arrays of blocks that a closure was mapped over.
use Rattle.std.proofs.Common.{◌≡◌, ℕ, zero, suc, ◌+◌, ◌<◌, List, length, map, get_or, sym, ap, ◌∙◌, arith}
use Rattle.std.specs.Fn.{Mut, Called}
use Rattle.std.specs.Array.{MapsFrom, IsMapOf}
use Rattle.cipher.specs.declared.block.Block.{Block}
use Rattle.cipher.proofs.Eights.{each_is}

-- a closure that stays in P, and gives h of what it is called at
module _ {F : Type 0} (g : Mut F (Block × Unit {0}) Block) (P : F → Type 0) (h : Block → Block)
    (one : (p q : F) (x y : Block) → P p → Called g p (x, tt) y q → P q × (y ≡ h x)) where
  from : (p : F) (xs ys : List Block) (i n : ℕ) → P p → MapsFrom g p xs ys i n → (k : ℕ) (d : Block) → k < n
      → get_or ys (i + k) d ≡ h (get_or xs (i + k) d)
  from p xs ys i zero s m k d lt = absurd (omega arith)
  from p xs ys i (suc n) s m zero d lt =
      let e : i + 0 ≡ i = omega arith in
      let r = one p m.0 m.1 m.2 s m.5 in
      ap (λ j. get_or ys j d) e ∙ m.4.1 d ∙ r.1 ∙ ap h (sym (ap (λ j. get_or xs j d) e ∙ m.3.1 d))
  from p xs ys i (suc n) s m (suc k) d lt =
      let e : i + suc k ≡ i + 1 + k = omega arith in
      let r = one p m.0 m.1 m.2 s m.5 in
      ap (λ j. get_or ys j d) e ∙ from m.0 xs ys (i + 1) n r.0 m.6 k d (omega arith) ∙ ap (λ j. h (get_or xs j d)) (sym e)

  pub mapped : (p : F) (xs ys : List Block) (n : ℕ) → P p → length xs ≡ n → IsMapOf g p xs ys n → ys ≡ map h xs
  mapped p xs ys n s long m =
      each_is h n xs ys long m.long (λ k d lt. let e : 0 + k ≡ k = omega arith in
      ap (λ j. get_or ys j d) (sym e) ∙ from p xs ys 0 n s m.each k d lt ∙ ap (λ j. h (get_or xs j d)) e)
