-- The laws of a chosen cipher, from those of its parts.
use Rattle.std.specs.Prelude.{List, ◌≡◌, ℕ}
use Rattle.std.proofs.Common.{sym, ap, subst}
use Rattle.blowfish.specs.Feistel as blowfish
use Rattle.cipher.specs.Blocks.{Inverse}
use Rattle.cipher.specs.Cases.{inverse_by_case}
use Rattle.cipher.specs.Keys.{Alike}
use Rattle.cipher.specs.Inverses.{inverse_triple}
use Rattle.xtea.specs.Cycles as xtea
use Rattle.chosen.specs.declared.Kind.{Kind}
use Rattle.chosen.specs.Kinds.{Keyed, Chosen}
use Rattle.chosen.specs.Meanings.{Loaded, keyed_enc, keyed_dec, Lengths, enc_under, dec_under, chosen_enc, chosen_dec}

pub keyed_inverse : (c : Keyed) → Inverse (keyed_enc c) (keyed_dec c)
keyed_inverse = inverse_by_case _ _ _ _ blowfish.inverse (λ x. xtea.inverse x.key)

pub chosen_inverse : (c : Chosen) → Inverse (chosen_enc c) (chosen_dec c)
chosen_inverse =
    inverse_by_case _ _ _ _ keyed_inverse (λ t. inverse_triple _ _ _ _ _ _ (keyed_inverse t.first) (keyed_inverse t.second) (keyed_inverse t.third))

-- a fact at the cipher that s is holds at s
pub loaded_at : (s t x : Keyed) (key : List ℕ) → s ≡ x → Loaded x t key → Loaded s t key
loaded_at s t x key e h = subst (λ y. Loaded y t key) (sym e) h

-- what keys mean stays with the kind
pub stays_at : (k l : Kind) → k ≡ l → Alike (Lengths k) (Lengths l) × (enc_under k ≡ enc_under l) × (dec_under k ≡ dec_under l)
stays_at k l e = (λ n. (subst (λ x. Lengths x n) e, subst (λ x. Lengths x n) (sym e)), ap enc_under e, ap dec_under e)
