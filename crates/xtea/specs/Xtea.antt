-- XTEA, 32 cycles under a key of four words.
--   mixed v            m(v): v shifted left by 4 xor v shifted right by 5, and v added
--   left_word_of k s   a sum with the key's word for the left half; right_word_of for the right
--   left_share k s v   what the left half gains from the right one, v; right_share the other way
--   cycled k s b       one cycle that begins at the sum s
--   uncycled k s b     the cycle undone
--   sum_at i           the sum at which cycle i begins
--   cycles k n b       the first n cycles; uncycles undoes them
--   enciphered k b     E under the key words k
--   deciphered k b     D under the key words k
--   key_words key      the four words of a key of sixteen bytes
use Rattle.std.specs.Prelude.{ℕ, zero, suc, ◌*◌, ◌/◌, ◌%◌, ◌^◌, List, [], ◌∷◌, bit_xor, slice_index}
use Rattle.cipher.specs.declared.block.Block.{Block}
use Rattle.cipher.specs.Bytes.{word_at}
use Rattle.cipher.specs.Rounds.{rounds, unrounds}
use Rattle.cipher.specs.Words.{plus, minus}

abbrev pub mixed : ℕ → ℕ
mixed v = plus (bit_xor ((v * 2 ^ 4) % 2 ^ 32) (v / 2 ^ 5)) v

-- the left half goes by the sum and the key's word that its last two bits pick,
-- the right half by the next sum and the word that its bits 11 and 12 pick
abbrev pub left_word_of : List ℕ → ℕ → ℕ
left_word_of k s = plus s (slice_index k (s % 4))

abbrev pub right_word_of : List ℕ → ℕ → ℕ
right_word_of k s = plus (plus s 0x9E3779B9) (slice_index k (plus s 0x9E3779B9 / 2 ^ 11 % 4))

abbrev pub left_share : List ℕ → ℕ → ℕ → ℕ
left_share k s v = bit_xor (mixed v) (left_word_of k s)

abbrev pub right_share : List ℕ → ℕ → ℕ → ℕ
right_share k s v = bit_xor (mixed v) (right_word_of k s)

unfoldable pub cycled : List ℕ → ℕ → Block → Block
cycled k s b =
    record {
      left = plus b.left (left_share k s b.right);
      right = plus b.right (right_share k s (plus b.left (left_share k s b.right)));
    }

unfoldable pub uncycled : List ℕ → ℕ → Block → Block
uncycled k s b =
    record {
      left = minus b.left (left_share k s (minus b.right (right_share k s b.left)));
      right = minus b.right (right_share k s b.left);
    }

abbrev pub sum_at : ℕ → ℕ
sum_at zero = 0
sum_at (suc i) = plus (sum_at i) 0x9E3779B9

unfoldable pub cycles : List ℕ → ℕ → Block → Block
cycles k n b = rounds (λ i. cycled k (sum_at i)) n b

unfoldable pub uncycles : List ℕ → ℕ → Block → Block
uncycles k n b = unrounds (λ i. uncycled k (sum_at i)) n b

abbrev pub enciphered : List ℕ → Block → Block
enciphered k b = cycles k 32 b

abbrev pub deciphered : List ℕ → Block → Block
deciphered k b = uncycles k 32 b

abbrev pub key_words : List ℕ → List ℕ
key_words key = word_at key 0 ∷ word_at key 4 ∷ word_at key 8 ∷ word_at key 12 ∷ []
