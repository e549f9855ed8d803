-- The rounds of Blowfish and their way back, whatever the tables hold.
use Rattle.std.proofs.Common.{◌∙◌, ap, arith}
use Rattle.std.specs.Prelude.{ℕ, ◌+◌, ◌*◌, ◌^◌, ◌<◌, bit_xor}
use Rattle.std.specs.Int.Bits.{xor_lt}
use Rattle.cipher.specs.Blocks.{Inverse}
use Rattle.cipher.specs.Rounds.{rounds, unrounds}
use Rattle.cipher.specs.Inverses.{same, inverse_then, inverse_rounds}
use Rattle.cipher.proofs.Words.{xor_twice}
use Rattle.blowfish.specs.declared.tables.Blowfish.{Blowfish}
use Rattle.blowfish.specs.Blowfish.{pword, f, odd_round, even_round, odd_back_of, even_back_of, pair, pair_back, begun, begun_at, exchanged, enciphering, deciphering, enciphered, deciphered}

f_lt : (t : Blowfish) (w : ℕ) → f t w < 2 ^ 32
f_lt t w = omega arith

pword_lt : (t : Blowfish) (i : ℕ) → pword t i < 2 ^ 32
pword_lt t i = omega arith

module _ (t : Blowfish) where
  odd_inverse : (w : ℕ) → w < 2 ^ 32 → Inverse (odd_round t w) (odd_back_of t w)
  unfolding odd_round odd_back_of
  odd_inverse w k =
      record {
        enc_sound = λ b h. (xor_lt 32 _ _ h.0 k, xor_lt 32 _ _ h.1 (f_lt t _));
        dec_sound = λ b h. (xor_lt 32 _ _ h.0 k, xor_lt 32 _ _ h.1 (f_lt t _));
        dec_enc = λ b h. same _ _ _ _ (xor_twice b.left w) (xor_twice b.right _);
        enc_dec = λ b h.
            let l = xor_twice b.left w in
            same _ _ _ _ l (ap (λ v. bit_xor (bit_xor b.right (f t b.left)) (f t v)) l ∙ xor_twice b.right (f t b.left));
      }

  even_inverse : (w : ℕ) → w < 2 ^ 32 → Inverse (even_round t w) (even_back_of t w)
  unfolding even_round even_back_of
  even_inverse w k =
      record {
        enc_sound = λ b h. (xor_lt 32 _ _ h.0 (f_lt t _), xor_lt 32 _ _ h.1 k);
        dec_sound = λ b h. (xor_lt 32 _ _ h.0 (f_lt t _), xor_lt 32 _ _ h.1 k);
        dec_enc = λ b h. same _ _ _ _ (xor_twice b.left _) (xor_twice b.right w);
        enc_dec = λ b h.
            let r = xor_twice b.right w in
            same _ _ _ _ (ap (λ v. bit_xor (bit_xor b.left (f t b.right)) (f t v)) r ∙ xor_twice b.left (f t b.right)) r;
      }

  closed_inverse : (i : ℕ)
      → Inverse (λ b. exchanged (begun (pword t i) (pword t (i + 1)) b)) (λ b. begun (pword t i) (pword t (i + 1)) (exchanged b))
  closed_inverse i =
      record {
        enc_sound = λ b h. (xor_lt 32 _ _ h.1 (pword_lt t (i + 1)), xor_lt 32 _ _ h.0 (pword_lt t i));
        dec_sound = λ b h. (xor_lt 32 _ _ h.1 (pword_lt t i), xor_lt 32 _ _ h.0 (pword_lt t (i + 1)));
        dec_enc = λ b h. same _ _ _ _ (xor_twice b.left (pword t i)) (xor_twice b.right (pword t (i + 1)));
        enc_dec = λ b h. same _ _ _ _ (xor_twice b.left (pword t (i + 1))) (xor_twice b.right (pword t i));
      }

  pair_inverse : (j : ℕ) → Inverse (pair t j) (pair_back t j)
  pair_inverse j =
      inverse_then (odd_round t (pword t (2 * j))) (odd_back_of t (pword t (2 * j)))
      (even_round t (pword t (2 * j + 1))) (even_back_of t (pword t (2 * j + 1)))
      (odd_inverse _ (pword_lt t (2 * j))) (even_inverse _ (pword_lt t (2 * j + 1)))

  -- E and D undo each other over every table
  pub inverse : Inverse (enciphered t) (deciphered t)
  unfolding enciphering deciphering
  inverse =
      inverse_then (rounds (pair t) 8) (unrounds (pair_back t) 8) (λ b. exchanged (begun_at t 8 b)) (λ b. begun_at t 8 (exchanged b))
      (inverse_rounds (pair t) (pair_back t) pair_inverse 8) (closed_inverse 16)
