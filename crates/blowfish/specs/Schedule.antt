-- How the tables come from a key.
--   key_word_of key i  what word i of P is xored with: the key's bytes at the places 4i to 4i + 3, each modulo the key's length
--   mixed key t        the tables with the key's words in P
--   Going              tables, and the block that was enciphered last
--   step_p i x         one encipherment, which replaces pair i of P; step_s k i x pair i of box k
--   filled t           all pairs replaced, from the zero block on: 9 of P, then 128 of each box
--   initial            the tables of pi
--   scheduled t key    the tables under a key, from the tables t on
--   Takes n            a key may have n bytes
use Rattle.std.specs.Prelude.{ℕ, ◌+◌, ◌*◌, ◌/◌, ◌%◌, ◌≤◌, List, [], ◌∷◌, length, bit_xor, slice_index, slice_index_or, slice_set}
use Rattle.cipher.specs.declared.block.Block.{Block}
use Rattle.cipher.specs.Bytes.{word}
use Rattle.cipher.specs.Rounds.{rounds}
use Rattle.blowfish.specs.declared.tables.Blowfish.{Blowfish}
use Rattle.blowfish.specs.Blowfish.{enciphered}
use Rattle.blowfish.specs.Pi.{pi_p, pi_s}

abbrev pub key_byte : List ℕ → ℕ → ℕ
key_byte key j = slice_index key (j % length key)

abbrev pub key_word_of : List ℕ → ℕ → ℕ
key_word_of key i = word (key_byte key (4 * i)) (key_byte key (4 * i + 1)) (key_byte key (4 * i + 2)) (key_byte key (4 * i + 3))

unfoldable pub mix_word : List ℕ → ℕ → List (List ℕ) → List (List ℕ)
mix_word key i ps =
    slice_set ps (i / 2) (slice_set (slice_index_or ps (i / 2) []) (i % 2) (bit_xor (slice_index (slice_index_or ps (i / 2) []) (i % 2)) (key_word_of key i)))

unfoldable pub mixed : List ℕ → Blowfish → Blowfish
mixed key t = record { p = rounds (mix_word key) 18 t.p; s = t.s }

abbrev pub Going : Type 0
Going = Blowfish × Block

abbrev pub in_p : Blowfish → ℕ → Block → Blowfish
in_p t i b = record { p = slice_set t.p i (b.left ∷ b.right ∷ []); s = t.s }

abbrev pub both : List ℕ → ℕ → Block → List ℕ
both ws i b = slice_set (slice_set ws (2 * i) b.left) (2 * i + 1) b.right

abbrev pub in_s : ℕ → Blowfish → ℕ → Block → Blowfish
in_s k t i b = record { p = t.p; s = slice_set t.s k (both (slice_index_or t.s k []) i b) }

unfoldable pub step_p : ℕ → Going → Going
step_p i x = (in_p x.0 i (enciphered x.0 x.1), enciphered x.0 x.1)

unfoldable pub step_s : ℕ → ℕ → Going → Going
step_s k i x = (in_s k x.0 i (enciphered x.0 x.1), enciphered x.0 x.1)

abbrev pub zero_block : Block
zero_block = record { left = 0; right = 0 }

unfoldable pub filled_p : Blowfish → Going
filled_p t = rounds step_p 9 (t, zero_block)

unfoldable pub filled_box : ℕ → Going → Going
filled_box k x = rounds (step_s k) 128 x

unfoldable pub filled : Blowfish → Blowfish
filled t = (rounds filled_box 4 (filled_p t)).0

unfoldable pub initial : Blowfish
initial = record { p = pi_p; s = pi_s }

unfoldable pub scheduled : Blowfish → List ℕ → Blowfish
scheduled t key = filled (mixed key t)

abbrev pub Takes : ℕ → Type 0
Takes n = (4 ≤ n) × (n ≤ 56)
