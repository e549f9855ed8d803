-- The places of the table, and what they hold.
--   bears s n        a place of the state s is in force with the number n
--   is_free_place s  a place of the state s is free
--   curve_of p       the curve in the arrays of a place
--   held ps n        the curve that is in force with the number n
--   Nowhere ps n     no place is in force with the number n
--   NoneFree ps      no place is free
--   once ps n        at most one place is in force with the number n
use Rattle.std.specs.Prelude.{◌≡◌, ℕ, ◌<◌, Bool, true, false, cond, not, List, [], ◌∷◌, take, replicate, pos, is_some, Some, None, Option, ◌==◌, slice_index_or, refl}
use Rattle.std.proofs.Common.{zero-le}
use Rattle.curve.specs.Curves.{Curve, points}
use Rattle.register.specs.declared.place.Place.{Place}
use Rattle.register.specs.declared.place.PlaceState.{PlaceState}
use Rattle.register.specs.declared.place.PlaceState.TheVariants.{Free, InForce}

abbrev pub bears : PlaceState → ℕ → Bool
bears Free n = false
bears (InForce m) n = m == n

abbrev pub is_free_place : PlaceState → Bool
is_free_place Free = true
is_free_place (InForce m) = false

abbrev pub curve_of : Place → Curve
curve_of p = points (take p.count p.stages) (take p.count p.flows)

abbrev pub held : List Place → ℕ → Option Curve
held [] n = None
held (p ∷ ps) n = cond (bears p.state n) (Some (curve_of p)) (held ps n)

-- past the last place
abbrev pub blank : Place
blank = record { state = Free; count = 0; stages = []; flows = []; stages_enough = refl; flows_enough = refl; few = zero-le }

-- a place as it is at first
abbrev pub unused : Place
unused = record { state = Free; count = 0; stages = replicate 16 (pos 0); flows = replicate 16 0; stages_enough = refl; flows_enough = refl; few = zero-le }

abbrev pub once : List Place → ℕ → Bool
once [] n = true
once (p ∷ ps) n = cond (bears p.state n) (not (is_some (held ps n))) (once ps n)

abbrev pub Nowhere : List Place → ℕ → Type 0
Nowhere ps n = (i : ℕ) → i < 32 → bears (slice_index_or ps i blank).state n ≡ false

abbrev pub NoneFree : List Place → Type 0
NoneFree ps = (i : ℕ) → i < 32 → is_free_place (slice_index_or ps i blank).state ≡ false
