-- A cycle and its way back, and so all of them.
use Rattle.std.specs.Prelude.{◌≡◌, ℕ, zero, suc, ◌*◌, ◌%◌, ◌^◌, ◌<◌, List, refl}
use Rattle.std.proofs.Common.{sym, ◌∙◌, ap, arith}
use Rattle.std.proofs.lemmas.Nat.{xor_lt}
use Rattle.cipher.specs.declared.block.Block.{Block}
use Rattle.cipher.specs.Blocks.{Inverse, Sound}
use Rattle.cipher.specs.Words.{plus, minus}
use Rattle.cipher.specs.Inverses.{same, inverse_rounds}
use Rattle.cipher.proofs.Words.{plus_lt, minus_lt, minus_plus, plus-minus}
use Rattle.xtea.specs.Xtea.{enciphered, deciphered, left_share, right_share, cycled, uncycled, cycles, uncycles, sum_at}

left_lt : (k : List ℕ) (s v : ℕ) → left_share k s v < 2 ^ 32
left_lt k s v = xor_lt 32 _ _ (plus_lt _ v) (plus_lt s _)

right_lt : (k : List ℕ) (s v : ℕ) → right_share k s v < 2 ^ 32
right_lt k s v = xor_lt 32 _ _ (plus_lt _ v) (plus_lt (plus s 0x9E3779B9) _)

uncycled-cycled : (k : List ℕ) (s : ℕ) (b : Block) → Sound b → uncycled k s (cycled k s b) ≡ b
unfolding cycled uncycled
uncycled-cycled k s b h =
    let l : ℕ = plus b.left (left_share k s b.right) in
    let r : minus (plus b.right (right_share k s l)) (right_share k s l) ≡ b.right
    = minus_plus b.right (right_share k s l) h.1 (right_lt k s l) in
    same _ _ _ _
    (ap (λ v. minus l (left_share k s v)) r ∙ minus_plus b.left (left_share k s b.right) h.0 (left_lt k s b.right))
    r

cycled-uncycled : (k : List ℕ) (s : ℕ) (b : Block) → Sound b → cycled k s (uncycled k s b) ≡ b
unfolding cycled uncycled
cycled-uncycled k s b h =
    let r : ℕ = minus b.right (right_share k s b.left) in
    let l : plus (minus b.left (left_share k s r)) (left_share k s r) ≡ b.left
    = plus-minus b.left (left_share k s r) h.0 (left_lt k s r) in
    same _ _ _ _
    l
    (ap (λ v. plus r (right_share k s v)) l ∙ plus-minus b.right (right_share k s b.left) h.1 (right_lt k s b.left))

inverse_cycle : (k : List ℕ) (s : ℕ) → Inverse (cycled k s) (uncycled k s)
unfolding cycled uncycled
inverse_cycle k s =
    record {
      enc_sound = λ b h. (plus_lt _ _, plus_lt _ _);
      dec_sound = λ b h. (minus_lt _ _, minus_lt _ _);
      dec_enc = uncycled-cycled k s;
      enc_dec = cycled-uncycled k s;
    }

-- E and D undo each other under every key
pub inverse : (k : List ℕ) → Inverse (enciphered k) (deciphered k)
unfolding cycles uncycles
inverse k = inverse_rounds (λ i. cycled k (sum_at i)) (λ i. uncycled k (sum_at i)) (λ i. inverse_cycle k (sum_at i)) 32

sum_at_lt : (i : ℕ) → sum_at i < 2 ^ 32
sum_at_lt zero = omega arith
sum_at_lt (suc i) = plus_lt (sum_at i) _

-- the sum grows by the same in each cycle
pub sum_at_is : (n : ℕ) → sum_at n ≡ 0x9E3779B9 * n % 2 ^ 32
sum_at_is zero = refl
sum_at_is (suc n) = let h = sum_at_is n in omega arith

-- no cycle is left to undo
pub none_left : (k : List ℕ) (n : ℕ) (x : Block) → n ≡ 0 → x ≡ uncycles k n x
unfolding uncycles
none_left k n x e = ap (λ m. uncycles k m x) (sym e)

-- one turn of deciphering: the sum goes back first
pub turn_back : (k : List ℕ) (m n s : ℕ) (x y : Block) → n ≡ suc m → s ≡ sum_at n → y ≡ uncycled k (minus s 0x9E3779B9) x
    → (uncycles k m y ≡ uncycles k n x) × (minus s 0x9E3779B9 ≡ sum_at m)
unfolding uncycles
turn_back k m n s x y e p q =
    let back : minus (sum_at (suc m)) 0x9E3779B9 ≡ sum_at m = minus_plus (sum_at m) 0x9E3779B9 (sum_at_lt m) (omega arith) in
    let t : minus s 0x9E3779B9 ≡ sum_at m = ap (λ v. minus v 0x9E3779B9) (p ∙ ap sum_at e) ∙ back in
    (ap (uncycles k m) (q ∙ ap (λ v. uncycled k v x) t) ∙ ap (λ j. uncycles k j x) (sym e), t)
