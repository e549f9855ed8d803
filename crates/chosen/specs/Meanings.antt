-- What a chosen cipher does, by cases.
--   keyed_enc c, keyed_dec c      E and D of a keyed cipher
--   Lengths k n                   ciphers of kind k take keys of n bytes
--   enc_under k, dec_under k      E and D of a kind under a key
--   Loaded s t key                t is s with the key loaded
--   chosen_enc c, chosen_dec c    E and D of a chosen cipher; three in a row are first E, then D, then E
--   Fresh k c                     c is of kind k, before any load: Blowfish at the tables of pi, XTEA under sixteen zero bytes
use Rattle.std.specs.Prelude.{List, ◌≡◌, ℕ, length, replicate}
use Rattle.blowfish.specs.Blowfish as blowfish
use Rattle.blowfish.specs.Schedule.{Takes, initial, scheduled}
use Rattle.cipher.specs.Cases.{by_case}
use Rattle.cipher.specs.declared.block.Block.{Block}
use Rattle.cipher.specs.declared.one_of.OneOf.TheVariants.{First as Blowfish, Second as Xtea}
use Rattle.xtea.specs.Xtea as xtea
use Rattle.xtea.specs.Xtea.{key_words}
use Rattle.chosen.specs.declared.Kind.{Kind}
use Rattle.chosen.specs.declared.Kind.TheVariants as kind
use Rattle.chosen.specs.Kinds.{Keyed, Chosen, keyed_kind}

abbrev pub keyed_enc : Keyed → Block → Block
keyed_enc = by_case blowfish.enciphered (λ x. xtea.enciphered x.key)

abbrev pub keyed_dec : Keyed → Block → Block
keyed_dec = by_case blowfish.deciphered (λ x. xtea.deciphered x.key)

-- the lengths of key that a kind takes; a triple takes none
abbrev pub Lengths : Kind → ℕ → Type 0
Lengths kind.Blowfish n = Takes n
Lengths kind.Xtea n = n ≡ 16
Lengths kind.Triple n = ⊥

abbrev pub enc_under : Kind → List ℕ → Block → Block
enc_under kind.Blowfish key b = blowfish.enciphered (scheduled initial key) b
enc_under kind.Xtea key b = xtea.enciphered (key_words key) b
enc_under kind.Triple key b = b

abbrev pub dec_under : Kind → List ℕ → Block → Block
dec_under kind.Blowfish key b = blowfish.deciphered (scheduled initial key) b
dec_under kind.Xtea key b = xtea.deciphered (key_words key) b
dec_under kind.Triple key b = b

-- t is s with the key loaded
abbrev pub Loaded : Keyed → Keyed → List ℕ → Type 0
Loaded s t key =
    (Lengths (keyed_kind s) (length key) × (keyed_enc t ≡ enc_under (keyed_kind s) key) × (keyed_dec t ≡ dec_under (keyed_kind s) key)) × (keyed_kind t ≡ keyed_kind s)

abbrev pub chosen_enc : Chosen → Block → Block
chosen_enc = by_case keyed_enc (λ t b. keyed_enc t.third (keyed_dec t.second (keyed_enc t.first b)))

abbrev pub chosen_dec : Chosen → Block → Block
chosen_dec = by_case keyed_dec (λ t b. keyed_dec t.first (keyed_enc t.second (keyed_dec t.third b)))

abbrev pub Fresh : Kind → Keyed → Type 0
Fresh kind.Blowfish c = c ≡ Blowfish initial
Fresh kind.Xtea c = c ≡ Xtea (record { key = key_words (replicate 16 0) })
Fresh kind.Triple c = ⊥
