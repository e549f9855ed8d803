-- Worked examples, each a row of one table.
use Rattle.std.specs.Prelude.{◌≡◌, ℕ, List, [], ◌∷◌, replicate}
use Rattle.cipher.specs.declared.block.Block.{Block}
use Rattle.blowfish.specs.Blowfish as blowfish
use Rattle.blowfish.specs.Blowfish.{combined}
use Rattle.blowfish.specs.Schedule.{initial, key_word_of, scheduled}
use Rattle.modes.specs.Cmac.{doubled}
use Rattle.xtea.specs.Xtea as xtea
use Rattle.xtea.specs.Xtea.{cycled, key_words}

abbrev pub block : ℕ → ℕ → Block
block l r = record { left = l; right = r }

-- the key 0102030405
abbrev pub five_bytes : List ℕ
five_bytes = 1 ∷ 2 ∷ 3 ∷ 4 ∷ 5 ∷ []

-- the key 000102 .. 0F
abbrev pub sixteen_bytes : List ℕ
sixteen_bytes = 0 ∷ 1 ∷ 2 ∷ 3 ∷ 4 ∷ 5 ∷ 6 ∷ 7 ∷ 8 ∷ 9 ∷ 10 ∷ 11 ∷ 12 ∷ 13 ∷ 14 ∷ 15 ∷ []

pub record Table : Type 0 where
  -- a key of five bytes goes round and round
  pub words_of_a_key : (key_word_of five_bytes 0 ≡ 0x01020304) × (key_word_of five_bytes 1 ≡ 0x05010203) × (key_word_of five_bytes 2 ≡ 0x04050102)
  -- f where the boxes give FFFFFFFF, 2, 3 and 4
  pub f_of_words : ◌≡◌ {A = ℕ} (combined 0xFFFFFFFF 2 3 4) 6
  -- the first cycle of XTEA, zero block and zero key
  pub first_cycle : cycled (key_words (replicate 16 0)) 0 (block 0 0) ≡ block 0 0x9E3779B9
  -- XTEA whole, under the key 000102 .. 0F, over 4142434445464748
  pub xtea_vector : xtea.enciphered (key_words sixteen_bytes) (block 0x41424344 0x45464748) ≡ block 0x497DF3D0 0x72612CB5
  -- Blowfish whole, key schedule and all, under eight zero bytes, over the zero block
  pub blowfish_vector : blowfish.enciphered (scheduled initial (replicate 8 0)) (block 0 0) ≡ block 0x4EF99745 0x6198DD78
  -- 8000000000000000 doubled
  pub top_bit_doubled : doubled (block 0x80000000 0) ≡ block 0 0x1B
