-- Lines of test vectors.
--   Parted n line a b          the line is a, of n bytes, one space and b
--   Whole n line               no two texts part the line so
--   Vector n line key b        the line is a key of n bytes, one space and a block, in capital hexadecimal digits
--   Foreign n line             no key of n bytes and no block make this line
--   Serves E n line reply      the reply to a line by a cipher with E under a key, where keys have n bytes
--   Answered line reply        the reply to a line: by Blowfish where the key has eight bytes, by XTEA where it has sixteen, else a hyphen
use Rattle.std.specs.Prelude.{◌≡◌, ℕ, List, ◌∷◌, ◌++◌, length, codes}
use Rattle.cipher.specs.declared.block.Block.{Block}
use Rattle.cipher.specs.Blocks.{Sound}
use Rattle.cipher.specs.Bytes.{Bytes, bytes_of}
use Rattle.blowfish.specs.Blowfish as blowfish
use Rattle.blowfish.specs.Schedule.{initial, scheduled}
use Rattle.hex_digits.specs.Digits.{spelled}
use Rattle.xtea.specs.Xtea as xtea
use Rattle.xtea.specs.Xtea.{key_words}

abbrev pub Parted : ℕ → List ℕ → List ℕ → List ℕ → Type 0
Parted n line a b = (length a ≡ n) × (line ≡ a ++ (32 ∷ b))

abbrev pub Whole : ℕ → List ℕ → Type 0
Whole n line = (a b : List ℕ) → Parted n line a b → ⊥

pub record Vector (n : ℕ) (line key : List ℕ) (b : Block) : Type 0 where
  pub bytes : Bytes key
  pub long : length key ≡ n
  pub sound : Sound b
  pub written : line ≡ spelled key ++ (32 ∷ spelled (bytes_of b))

abbrev pub Foreign : ℕ → List ℕ → Type 0
Foreign n line = (key : List ℕ) (b : Block) → Vector n line key b → ⊥

abbrev pub hyphen : List ℕ
hyphen = codes "-"

pub record Serves (E : List ℕ → Block → Block) (n : ℕ) (line reply : List ℕ) : Type 0 where
  pub ciphertext : (key : List ℕ) (b : Block) → Vector n line key b → reply ≡ spelled (bytes_of (E key b))
  pub other : Foreign n line → reply ≡ hyphen

pub record Answered (line reply : List ℕ) : Type 0 where
  pub by_blowfish : (key : List ℕ) (b : Block) → Vector 8 line key b → reply ≡ spelled (bytes_of (blowfish.enciphered (scheduled initial key) b))
  pub by_xtea : (key : List ℕ) (b : Block) → Vector 16 line key b → reply ≡ spelled (bytes_of (xtea.enciphered (key_words key) b))
  pub other : Foreign 8 line → Foreign 16 line → reply ≡ hyphen
