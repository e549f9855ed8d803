-- Sums and differences of words undo each other, and so does an exclusive or done twice.
use Rattle.std.proofs.Common.{◌≡◌, ℕ, ◌^◌, ◌<◌, ap, ◌∙◌, arith}
use lib.Bits.{bit_xor, xor_assoc, xor_self, xor_zero_r}
use Rattle.cipher.specs.Words.{plus, minus}

pub plus_lt : (x y : ℕ) → plus x y < 2 ^ 32
plus_lt x y = omega arith

pub minus_lt : (x y : ℕ) → minus x y < 2 ^ 32
minus_lt x y = omega arith

pub minus_plus : (x y : ℕ) → x < 2 ^ 32 → y < 2 ^ 32 → minus (plus x y) y ≡ x
minus_plus x y h k = omega arith

pub plus-minus : (x y : ℕ) → x < 2 ^ 32 → y < 2 ^ 32 → plus (minus x y) y ≡ x
plus-minus x y h k = omega arith

pub xor_twice : (x y : ℕ) → bit_xor (bit_xor x y) y ≡ x
xor_twice x y = xor_assoc x y y ∙ ap (bit_xor x) (xor_self y) ∙ xor_zero_r x
