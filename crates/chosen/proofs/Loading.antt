-- A key as one of two ciphers takes it, and as the cipher's kind does.
use Rattle.std.proofs.Common.{◌≡◌, ℕ, List, Result, Ok, Err, length}
use Rattle.blowfish.specs.Blowfish as blowfish
use Rattle.blowfish.specs.Schedule.{Takes, initial, scheduled}
use Rattle.cipher.specs.Cases.{by_case}
use Rattle.cipher.specs.declared.block.Block.{Block}
use Rattle.cipher.specs.declared.one_of.OneOf.TheVariants.{First, Second}
use Rattle.refusal.specs.Refusals.{Answers}
use Rattle.refusal.specs.declared.Refusal.{Refusal}
use Rattle.xtea.specs.Xtea as xtea
use Rattle.xtea.specs.Xtea.{key_words}
use Rattle.chosen.specs.Kinds.{Keyed, keyed_kind}
use Rattle.chosen.specs.Meanings.{Lengths, Loaded, keyed_enc, keyed_dec}

abbrev takes : Keyed → ℕ → Type 0
takes = by_case (λ _. Takes) (λ _ n. n ≡ 16)

abbrev enc_of : Keyed → List ℕ → Block → Block
enc_of = by_case (λ _ key. blowfish.enciphered (scheduled initial key)) (λ _ key. xtea.enciphered (key_words key))

abbrev dec_of : Keyed → List ℕ → Block → Block
dec_of = by_case (λ _ key. blowfish.deciphered (scheduled initial key)) (λ _ key. xtea.deciphered (key_words key))

-- what the one that stands there says of a key, its kind says
pub by_kind : {X : Type 0} (r : Result X Refusal) (s t : Keyed) (key : List ℕ) → keyed_kind t ≡ keyed_kind s
    → Answers r
    (λ _. takes s (length key) × (keyed_enc t ≡ enc_of s key) × (keyed_dec t ≡ dec_of s key))
    (λ n. (n ≡ 16) × (takes s (length key) → ⊥) × (t ≡ s))
    → Answers r (λ _. Loaded s t key) (λ n. (n ≡ 16) × (Lengths (keyed_kind s) (length key) → ⊥) × (t ≡ s))
by_kind (Ok x) (First s) t key k h = (h, k)
by_kind (Ok x) (Second s) t key k h = (h, k)
by_kind (Err e) (First s) t key k h = h
by_kind (Err e) (Second s) t key k h = h
