-- What a register is, seen by number, and how its calls answer.
--   meaning r         the state of a register, its places hidden
--   answer_of r       the answer of a call, by number
--   Occupied          some place that was free is in force with a number and its curve, and every other is as before;
--                     which one, and what its arrays hold behind the last point, is left open
--   Vacated           the place that was in force with a number is free, and every other is as before
--   IfAccepted r P    P of an accepted call; IfRefused r P of a refused one
--   Carries s q a lent t    over every two ciphers, the call carries every run on with the promises
use Rattle.std.specs.Prelude.{◌≡◌, ℕ, ◌<◌, Bool, true, false, List, get_or, Some, None, Ok, Err, Option, Result, slice_index_or, slice_set}
use Rattle.refusal.specs.declared.Refusal.{Refusal}
use Rattle.refusal.specs.Refusals.{number_of}
use Rattle.cipher.specs.declared.block.Block.{Block}
use Rattle.cipher.specs.Blocks.{Inverse}
use Rattle.curve.specs.Curves.{Curve}
use Rattle.rules.specs.Registers.{Standing, State, in_force, withdrawn}
use Rattle.rules.specs.Calls.{Call, Answer, refused, accepted}
use Rattle.rules.specs.Runs.{CarriesOn}
use Rattle.register.specs.declared.place.Place.{Place}
use Rattle.register.specs.declared.place.PlaceState.TheVariants.{InForce}
use Rattle.register.specs.declared.register.Core.{Core}
use Rattle.register.specs.Places.{bears, is_free_place, curve_of, held, blank}

-- a mark, or else the curve in force, if there is one
abbrev pub standing_of : Bool → Option Curve → Option Standing
standing_of true o = Some withdrawn
standing_of false None = None
standing_of false (Some c) = Some (in_force c)

abbrev pub standing_at : List Bool → List Place → ℕ → Option Standing
standing_at marks places n = standing_of (slice_index_or marks n false) (held places n)

abbrev pub meaning : Core → State
meaning r = record { station = r.station; serial = r.serial; standing = standing_at r.withdrawn r.table.places }

abbrev pub answer_of : Result (Unit {0}) Refusal → Answer
answer_of (Ok u) = accepted
answer_of (Err e) = refused (number_of e)

pub record Occupied (before after : List Place) (n : ℕ) (c : Curve) : Type 0 where
  pub spot : ℕ
  pub place : Place
  pub there : spot < 32
  pub was_free : is_free_place (get_or before spot blank).state ≡ true
  pub now_in_force : place.state ≡ InForce n
  pub curve : curve_of place ≡ c
  pub others : after ≡ slice_set before spot place

pub record Vacated (before after : List Place) (n : ℕ) : Type 0 where
  pub freed : (i : ℕ) → bears (get_or before i blank).state n ≡ true → is_free_place (get_or after i blank).state ≡ true
  pub others : (i : ℕ) → bears (get_or before i blank).state n ≡ false → slice_index_or after i blank ≡ slice_index_or before i blank

abbrev pub IfAccepted : Result (Unit {0}) Refusal → Type 0 → Type 0
IfAccepted (Ok u) P = P
IfAccepted (Err e) P = Unit {0}

abbrev pub IfRefused : Result (Unit {0}) Refusal → Type 0 → Type 0
IfRefused (Ok u) P = Unit {0}
IfRefused (Err e) P = P

abbrev pub Carries : State → Call → Answer → List ℕ → State → Type 0
Carries s q a lent t = (E1 D1 E2 D2 : Block → Block) → Inverse E1 D1 → Inverse E2 D2 → CarriesOn E1 E2 s q a lent t
