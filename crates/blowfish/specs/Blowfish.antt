-- Blowfish, eight pairs of rounds over its tables: P of 18 words, which is kept in pairs, and the boxes S1 to S4 of 256 words each.
--   pword t i           word i of P
--   sword t k i         word i of box k, counted from 0
--   combined a b c d    f of the words that the four boxes give
--   f t w               f of a word: its bytes, highest first, pick a word of each box
--   odd_round t w b     a round of an odd number, under the word w of P; even_round the same with the halves exchanged
--   begun v w b         two words of P xored into the halves
--   enciphering t n b   n pairs of rounds, then the next two words of P, and the halves exchanged; deciphering undoes it
--   enciphered t b      E under the tables t
--   deciphered t b      D under the tables t
--   turned t w b        a round on halves that have their words of P in them already, and the next word for the right one
use Rattle.std.specs.Prelude.{ℕ, ◌+◌, ◌*◌, ◌/◌, ◌%◌, ◌^◌, [], bit_xor, slice_index, slice_index_or}
use Rattle.cipher.specs.declared.block.Block.{Block}
use Rattle.cipher.specs.Rounds.{rounds, unrounds}
use Rattle.cipher.specs.Words.{plus}
use Rattle.blowfish.specs.declared.tables.Blowfish.{Blowfish}

-- of 32 bits, as every word of a program is, whatever list stands for P
abbrev pub pword : Blowfish → ℕ → ℕ
pword t i = slice_index (slice_index_or t.p (i / 2) []) (i % 2) % 2 ^ 32

abbrev pub sword : Blowfish → ℕ → ℕ → ℕ
sword t k i = slice_index (slice_index_or t.s k []) i

abbrev pub combined : ℕ → ℕ → ℕ → ℕ → ℕ
combined a b c d = plus (bit_xor (plus a b) c) d

abbrev pub f : Blowfish → ℕ → ℕ
f t w =
    combined (sword t 0 (w / 2 ^ 24)) (sword t 1 (w / 2 ^ 16 % 256)) (sword t 2 (w / 2 ^ 8 % 256)) (sword t 3 (w % 256))

unfoldable pub odd_round : Blowfish → ℕ → Block → Block
odd_round t w b = record { left = bit_xor b.left w; right = bit_xor b.right (f t (bit_xor b.left w)) }

unfoldable pub even_round : Blowfish → ℕ → Block → Block
even_round t w b = record { left = bit_xor b.left (f t (bit_xor b.right w)); right = bit_xor b.right w }

-- the two rounds undone
unfoldable pub odd_back_of : Blowfish → ℕ → Block → Block
odd_back_of t w b = record { left = bit_xor b.left w; right = bit_xor b.right (f t b.left) }

unfoldable pub even_back_of : Blowfish → ℕ → Block → Block
even_back_of t w b = record { left = bit_xor b.left (f t b.right); right = bit_xor b.right w }

-- the rounds of the numbers 2j + 1 and 2j + 2
abbrev pub pair : Blowfish → ℕ → Block → Block
pair t j b = even_round t (pword t (2 * j + 1)) (odd_round t (pword t (2 * j)) b)

abbrev pub pair_back : Blowfish → ℕ → Block → Block
pair_back t j b = odd_back_of t (pword t (2 * j)) (even_back_of t (pword t (2 * j + 1)) b)

abbrev pub begun : ℕ → ℕ → Block → Block
begun v w b = record { left = bit_xor b.left v; right = bit_xor b.right w }

-- the words of P of the numbers 2j and 2j + 1 in the halves
abbrev pub begun_at : Blowfish → ℕ → Block → Block
begun_at t j b = begun (pword t (2 * j)) (pword t (2 * j + 1)) b

abbrev pub exchanged : Block → Block
exchanged b = record { left = b.right; right = b.left }

-- with eight pairs the left word that leaves is the right half xor P[17], the right one the left half xor P[16]
unfoldable pub enciphering : Blowfish → ℕ → Block → Block
enciphering t n b = exchanged (begun_at t n (rounds (pair t) n b))

unfoldable pub deciphering : Blowfish → ℕ → Block → Block
deciphering t n b = unrounds (pair_back t) n (begun_at t n (exchanged b))

abbrev pub enciphered : Blowfish → Block → Block
enciphered t b = enciphering t 8 b

abbrev pub deciphered : Blowfish → Block → Block
deciphered t b = deciphering t 8 b

unfoldable pub turned : Blowfish → ℕ → Block → Block
turned t w b = record { left = bit_xor b.right (f t b.left); right = bit_xor b.left w }
