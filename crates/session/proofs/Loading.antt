-- A key that is loaded.
use Rattle.std.proofs.Common.{◌≡◌, ℕ, true, cond, List, get_or, set, is_some, Some, None, Ok, Option, sym, refl, ap, ◌∙◌, arith}
use Rattle.chosen.specs.Kinds.{Keyed, keyed_kind}
use Rattle.chosen.specs.Meanings.{keyed_enc, keyed_dec, enc_under, dec_under}
use Rattle.cipher.specs.declared.one_of.OneOf.TheVariants.{First as One}
use Rattle.session.specs.Calls.{under}
use Rattle.session.specs.Performed.{restood}
use Rattle.session.specs.State.{Meaning, State, At, find, put, keyed_in, keyed_at}
use Rattle.session.specs.Views.{meaning}

-- what a keyed cipher means once the key is loaded
pub loaded_as : (c d : Keyed) (key : List ℕ) → keyed_enc d ≡ enc_under (keyed_kind c) key → keyed_dec d ≡ dec_under (keyed_kind c) key
    → keyed_kind d ≡ keyed_kind c → meaning (One d) ≡ under (keyed_kind c) key
loaded_as c d key e f k = λ i. record { kind = k i; enc = e i; dec = f i }

stood : (o : Option Meaning) (m : Meaning) → keyed_in o ≡ Ok m → is_some o ≡ true
stood None m e = let z : ◌≡◌ {A = ℕ} 0 1 = cc in absurd (omega (arith, z))
stood (Some x) m e = refl

-- a name that stands for a keyed cipher stands for something
pub restood_keyed : (n : List ℕ) (s : State) (m x : Meaning) → keyed_at n s ≡ Ok m → restood n x s ≡ put n x s
restood_keyed n s m x e = ap (λ b. cond b (put n x s) s) (stood (find n s) m e)

-- a name that stands at a place stands for something
pub restood_at : (n : List ℕ) (s : State) (i : ℕ) (d : List ℕ × Meaning) (x : Meaning) → At n s i → set s i ((get_or s i d).0, x) ≡ restood n x s
restood_at n s i d x a =
    ap (λ m. set s i (m, x)) (a.named d) ∙ sym (a.putting x)
    ∙ ap (λ o. cond (is_some o) (put n x s) s) (sym (a.found d))
