-- What stands under names.
--   Meaning        what a cipher is: its kind, its E and its D
--   State          names with what they stand for, in the order in which they were given
--   find n s       what a name stands for, if it stands for something
--   put n m s      the same state, but that n stands for m
--   At n s i       the name n stands at place i of s
--   kinds s        the names, each with the kind of cipher that it stands for, in that order
--   Shown s i n k  the i-th name is n, which stands for a cipher of kind k
--   keyed_at n s   the keyed cipher that a name stands for, or why there is none
use Rattle.std.specs.Prelude.{◌≡◌, ℕ, ◌<◌, cond, List, [], ◌∷◌, map, length, Some, None, Ok, Err, Option, Result, slice_index_or, slice_set}
use Rattle.std.specs.Str.{bytes_eq}
use Rattle.chosen.specs.declared.Kind.{Kind}
use Rattle.chosen.specs.declared.Kind.TheVariants.{Blowfish, Xtea, Triple}
use Rattle.cipher.specs.declared.block.Block.{Block}
use Rattle.script.specs.declared.unreadable.Unreadable.{Unreadable}
use Rattle.script.specs.declared.unreadable.Unreadable.TheVariants.{UnknownName, NotKeyed}

pub record Meaning : Type 0 where
  pub kind : Kind
  pub enc : Block → Block
  pub dec : Block → Block

abbrev pub State : Type 0
State = List (List ℕ × Meaning)

unfoldable pub find : List ℕ → State → Option Meaning
find n [] = None
find n (e ∷ s) = cond (bytes_eq e.0 n) (Some e.1) (find n s)

unfoldable pub put : List ℕ → Meaning → State → State
put n m [] = (n, m) ∷ []
put n m (e ∷ s) = cond (bytes_eq e.0 n) ((n, m) ∷ s) (e ∷ put n m s)

pub record At (n : List ℕ) (s : State) (i : ℕ) : Type 0 where
  pub within : i < length s
  pub named : (d : List ℕ × Meaning) → (slice_index_or s i d).0 ≡ n
  pub found : (d : List ℕ × Meaning) → find n s ≡ Some (slice_index_or s i d).1
  pub putting : (m : Meaning) → put n m s ≡ slice_set s i (n, m)

abbrev pub kinds : State → List (List ℕ × Kind)
kinds s = map (λ e. (e.0, e.1.kind)) s

-- the name n is the one at place i, and stands for a cipher of kind k
abbrev pub Shown : State → ℕ → List ℕ → Kind → Type 0
Shown s i n k = (d : List ℕ × Meaning) → ((slice_index_or s i d).0 ≡ n) × ((slice_index_or s i d).1.kind ≡ k)

-- a triple is not keyed
abbrev pub keyed_of : Kind → Meaning → Result Meaning Unreadable
keyed_of Blowfish m = Ok m
keyed_of Xtea m = Ok m
keyed_of Triple m = Err NotKeyed

abbrev pub keyed_in : Option Meaning → Result Meaning Unreadable
keyed_in None = Err UnknownName
keyed_in (Some m) = keyed_of m.kind m

abbrev pub keyed_at : List ℕ → State → Result Meaning Unreadable
keyed_at n s = keyed_in (find n s)
