-- Which lines are vectors, and of which key and block.
use Rattle.std.proofs.Common.{◌≡◌, Some, None, Result, Ok, Err, ℕ, ◌+◌, ◌*◌, List, ◌∷◌, ◌++◌, length, take, drop, sym, refl, ap, ◌∙◌, arith}
use Rattle.std.proofs.lemmas.List.{length-append, take_at, drop_at}
use Rattle.std.specs.Result.{result_ok}
use Rattle.cipher.specs.declared.block.Block.{Block}
use Rattle.cipher.specs.Bytes.{block_of, bytes_of}
use Rattle.cipher.proofs.Bytes.{block_of-bytes_of}
use Rattle.hex_digits.specs.Digits.{spelled, Unspelt, NoBlock}
use Rattle.hex_digits.proofs.Spelling.{length-spelled, spelled_one, bytes_of-bytes}
use Rattle.vector.specs.Lines.{Parted, Whole, Vector, Foreign, Serves, hyphen}

-- a line is parted in one way
parted_one : (n : ℕ) (line a b c d : List ℕ) → Parted n line a b → Parted n line c d → (a ≡ c) × (b ≡ d)
parted_one n line a b c d p q =
    let e : a ++ (32 ∷ b) ≡ c ++ (32 ∷ d) = sym p.1 ∙ q.1 in (
      sym (take_at a (32 ∷ b) n p.0) ∙ ap (take n) e ∙ take_at c (32 ∷ d) n q.0,
      ap (drop 1) (sym (drop_at a (32 ∷ b) n p.0) ∙ ap (drop n) e ∙ drop_at c (32 ∷ d) n q.0),
    )

parts : (n : ℕ) (line key : List ℕ) (b : Block) → Vector n line key b → Parted (2 * n) line (spelled key) (spelled (bytes_of b))
parts n line key b v = (length-spelled key ∙ ap (λ m. 2 * m) v.long, v.written)

pub foreign_whole : (n : ℕ) (line : List ℕ) → Whole (2 * n) line → Foreign n line
foreign_whole n line w key b v = w _ _ (parts n line key b v)

pub foreign_block : (n : ℕ) (line a ds : List ℕ) → Parted (2 * n) line a ds → NoBlock ds → Foreign n line
foreign_block n line a ds p none key b v =
    none b v.sound (parted_one (2 * n) line _ _ _ _ (parts n line key b v) p).1

pub foreign_key : (n : ℕ) (line ds b : List ℕ) → Parted (2 * n) line ds b → Unspelt n ds → Foreign n line
foreign_key n line ds b p none key x v =
    none key v.bytes v.long (parted_one (2 * n) line _ _ _ _ (parts n line key x v) p).0

-- a call that answers something succeeded with it, and one that answers nothing was refused
pub succeeded : {A E : Type 0} (r : Result A E) (x : A) → Some x ≡ result_ok r → r ≡ Ok x
succeeded (Ok y) x e = cc
succeeded (Err y) x e = cc

pub refused : {A E : Type 0} (r : Result A E) → None ≡ result_ok r → (d : E) × (r ≡ Err d)
refused (Ok y) e = cc
refused (Err y) e = (y, refl)

pub serves_foreign : (E : List ℕ → Block → Block) (n : ℕ) (line : List ℕ) → Foreign n line → Serves E n line hyphen
serves_foreign E n line f = record { ciphertext = λ key b v. absurd (f key b v); other = λ _. refl }

-- a line names one key and one block
vector_one : (n : ℕ) (line k l : List ℕ) (b c : Block) → Vector n line k b → Vector n line l c → (k ≡ l) × (b ≡ c)
vector_one n line k l b c v w =
    let p = parted_one (2 * n) line _ _ _ _ (parts n line k b v) (parts n line l c w) in
    let s : bytes_of b ≡ bytes_of c = spelled_one (bytes_of b) (bytes_of c) (bytes_of-bytes b) (bytes_of-bytes c) p.1 in (
      spelled_one k l v.bytes w.bytes p.0,
      sym (block_of-bytes_of b v.sound) ∙ ap block_of s ∙ block_of-bytes_of c w.sound,
    )

pub serves_vector : (E : List ℕ → Block → Block) (n : ℕ) (line key : List ℕ) (b c : Block) (reply : List ℕ) → Vector n line key b
    → c ≡ E key b → reply ≡ spelled (bytes_of c) → Serves E n line reply
serves_vector E n line key b c reply v e r =
    record {
      ciphertext = λ k d w.
          let o = vector_one n line key k b d v w in
          r ∙ ap (λ x. spelled (bytes_of x)) (e ∙ ap (λ x. E x b) o.0 ∙ ap (E k) o.1);
      other = λ f. absurd (f key b v);
    }

-- a line with a key of n bytes has 2n + 17 bytes
length_vector : (n : ℕ) (line key : List ℕ) (b : Block) → Vector n line key b → length line ≡ 2 * n + 17
length_vector n line key b v =
    let p = parts n line key b v in
    let e : length (spelled (bytes_of b)) ≡ 16 = length-spelled (bytes_of b) in
    omega (arith, ap length p.1, length-append (spelled key) (32 ∷ spelled (bytes_of b)), p.0, e)

-- lines of other lengths have no such key
pub foreign_length : (n : ℕ) (line : List ℕ) → (length line ≡ 2 * n + 17 → ⊥) → Foreign n line
foreign_length n line h key b v = h (length_vector n line key b v)
