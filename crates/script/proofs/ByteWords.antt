-- Words that say bytes.
use Rattle.std.proofs.Common.{◌≡◌, ℕ, false, eqb, List, [], ◌∷◌, length, Ok, Err, vec_items, codes, Result, Vec, ap, ◌∙◌, arith}
use Rattle.std.specs.Cmp.Lexicographic.{pointwise}
use Rattle.std.proofs.lemmas.Bool.{false≢true}
use Rattle.std.specs.declared.alloc.Global.{Global}
use Rattle.cipher.specs.Bytes.{Bytes}
use Rattle.hex_digits.specs.Digits.{spelled}
use Rattle.hex_digits.proofs.Spelling.{length-spelled}
use Rattle.script.specs.declared.misread.Misread.{Misread}
use Rattle.script.specs.declared.misread.Misread.TheVariants as misread
use Rattle.script.specs.Calls.{bytes_word, Said}

-- the empty word says none
pub no_word : (w : List ℕ) → length w ≡ 0 → (bs : List ℕ) → Bytes bs → w ≡ bytes_word bs → ⊥
no_word w h [] b e = omega (arith, h, ap length e)
no_word w h (x ∷ bs) b e = omega (arith, h, ap length e, length-spelled (x ∷ bs))

-- bytes that are spelled by some digits are some bytes
some_bytes : (w bs : List ℕ) → (length w ≡ 0 → ⊥) → w ≡ spelled bs → w ≡ bytes_word bs
some_bytes w [] h e = absurd (h (ap length e ∙ length-spelled []))
some_bytes w (b ∷ bs) h e = e

none_said : (w : List ℕ) → (w ≡ codes "-" → ⊥) → ((bs : List ℕ) → Bytes bs → w ≡ spelled bs → ⊥)
    → (bs : List ℕ) → Bytes bs → w ≡ bytes_word bs → ⊥
none_said w k s [] b e = k e
none_said w k s (x ∷ bs) b e = s (x ∷ bs) b e

-- a word that is neither empty nor a hyphen says the bytes that it spells
pub not_hyphen : (w : List ℕ) (r : Result (Vec ℕ Global) Misread) → (length w ≡ 0 → ⊥) → (w ≡ codes "-" → ⊥)
    → Said Bytes spelled vec_items w r → Said Bytes bytes_word vec_items w r
not_hyphen w (Ok v) h k s = (some_bytes w (vec_items v) h s.0, s.1)
not_hyphen w (Err misread.Form) h k s = none_said w k s
not_hyphen w (Err misread.Memory) h k s = tt

-- a word that the test finds to be another is no hyphen
pub another_word : (w hyphen : List ℕ) → false ≡ pointwise eqb w hyphen → hyphen ≡ codes "-" → w ≡ codes "-" → ⊥
another_word w hyphen h e f = false≢true (h ∙ ap (λ x. pointwise eqb x hyphen) f ∙ ap (pointwise eqb (codes "-")) e)
