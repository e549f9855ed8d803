-- Blocks that are equal, and functions on blocks that undo each other.
use Rattle.std.proofs.Common.{◌≡◌, ℕ, zero, suc, refl, ap, ◌∙◌}
use Rattle.cipher.specs.declared.block.Block.{Block}
use Rattle.cipher.specs.Blocks.{Inverse}
use Rattle.cipher.specs.Rounds.{rounds, unrounds}

-- two blocks with equal words are equal
pub same : (a b c d : ℕ) → a ≡ b → c ≡ d → ◌≡◌ {A = Block} (record { left = a; right = c }) (record { left = b; right = d })
same a b c d p q = cc

-- one function after another is undone by undoing the second, then the first
pub inverse_then : (E D F G : Block → Block) → Inverse E D → Inverse F G → Inverse (λ b. F (E b)) (λ b. D (G b))
inverse_then E D F G first second =
    record {
      enc_sound = λ b s. second.enc_sound (E b) (first.enc_sound b s);
      dec_sound = λ b s. first.dec_sound (G b) (second.dec_sound b s);
      dec_enc = λ b s. ap D (second.dec_enc (E b) (first.enc_sound b s)) ∙ first.dec_enc b s;
      enc_dec = λ b s. ap F (first.enc_dec (G b) (second.dec_sound b s)) ∙ second.enc_dec b s;
    }

-- rounds are undone one by one
pub inverse_rounds : (f g : ℕ → Block → Block) → ((i : ℕ) → Inverse (f i) (g i)) → (n : ℕ) → Inverse (rounds f n) (unrounds g n)
inverse_rounds f g each zero =
    record { enc_sound = λ b s. s; dec_sound = λ b s. s; dec_enc = λ b s. refl; enc_dec = λ b s. refl }
inverse_rounds f g each (suc n) =
    inverse_then (rounds f n) (unrounds g n) (f n) (g n) (inverse_rounds f g each n) (each n)

-- D and E undo each other as E and D do
pub inverse_flip : (E D : Block → Block) → Inverse E D → Inverse D E
inverse_flip E D i = record { enc_sound = i.dec_sound; dec_sound = i.enc_sound; dec_enc = i.enc_dec; enc_dec = i.dec_enc }

-- three in a row, the second the other way about
pub inverse_triple : (E D F G H K : Block → Block) → Inverse E D → Inverse F G → Inverse H K
    → Inverse (λ b. H (G (E b))) (λ b. D (F (K b)))
inverse_triple E D F G H K first second third =
    inverse_then (λ b. G (E b)) (λ b. D (F b)) H K (inverse_then E D G F first (inverse_flip F G second)) third
