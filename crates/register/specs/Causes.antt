-- What is weighed before a call changes or writes anything.
--   Unmarked r n                     n is a number that a curve can have, and is not marked
--   Stopped s n a                    a refuses a number that no curve can have, or that is withdrawn
--   Publishable r n ss qs i          nothing speaks against the publish, and place i is free
--   Convertible r n wanted room c    nothing speaks against so many stages and so long a list, and c is in force with the number
use Rattle.std.specs.Prelude.{◌≡◌, ℕ, ◌<◌, ◌≤◌, true, false, List, get_or, ℤ, Some, slice_index_or}
use Rattle.curve.specs.Curves.{Curve, Makes}
use Rattle.rules.specs.Registers.{Number, State, in_force, withdrawn}
use Rattle.rules.specs.Calls.{Answer, refused}
use Rattle.register.specs.declared.register.Core.{Core}
use Rattle.register.specs.Meaning.{meaning}
use Rattle.register.specs.Places.{is_free_place, Nowhere, blank}

abbrev pub Unmarked : Core → ℕ → Type 0
Unmarked r n = Number n × (slice_index_or r.withdrawn n false ≡ false)

pub data Stopped (s : State) (n : ℕ) (a : Answer) : Type 0 where
  no_number : (Number n → ⊥) → a ≡ refused 1 → Stopped s n a
  has_mark : Number n → s.standing n ≡ Some withdrawn → a ≡ refused 2 → Stopped s n a

abbrev pub Publishable : Core → ℕ → List ℤ → List ℕ → ℕ → Type 0
Publishable r n ss qs i = Unmarked r n × Makes ss qs × Nowhere r.table.places n × (i < 32) × (is_free_place (get_or r.table.places i blank).state ≡ true)

abbrev pub Convertible : Core → ℕ → ℕ → ℕ → Curve → Type 0
Convertible r n wanted room c = Unmarked r n × ((meaning r).standing n ≡ Some (in_force c)) × (wanted ≤ room)
