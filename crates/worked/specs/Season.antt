-- A season at three stations, call by call: a curve is published and passed on, withdrawn, the withdrawal is passed on,
-- and the old parcel is opened once more, late.
--   curve_k         the curve (−200, 0), (0, 1500), (400, 9500)
--   season E1 E2    the calls, over the ciphers whose E are E1 and E2
--   Season          it is a run of three registers, and at its end all three know of the withdrawal
use Rattle.std.specs.Prelude.{ℕ, ◌+◌, List, [], ◌∷◌, ◌++◌, length, drop, replicate, ℤ, pos, negsuc}
use Rattle.cipher.specs.declared.block.Block.{Block}
use Rattle.cipher.specs.Blocks.{Inverse}
use Rattle.modes.specs.declared.mode.Mode.{Mode}
use Rattle.modes.specs.declared.mode.Mode.TheVariants.{Cbc, Cfb, Ofb}
use Rattle.curve.specs.Curves.{Curve, points}
use Rattle.rules.specs.Registers.{State, new_state, put, in_force, withdrawn}
use Rattle.rules.specs.Parcels.{start_of, parcel_of}
use Rattle.rules.specs.Calls.{Call, Answer, raised, publish, withdraw, convert, seal, open_parcel, refused, accepted, sealed, opened}
use Rattle.rules.specs.Runs.{Event, Run, Knows}
use Rattle.rules.specs.Laws.{joined_with}

abbrev pub stages_k : List ℤ
stages_k = negsuc 199 ∷ pos 0 ∷ pos 400 ∷ []

abbrev pub flows_k : List ℕ
flows_k = 0 ∷ 1500 ∷ 9500 ∷ []

abbrev pub curve_k : Curve
curve_k = points stages_k flows_k

-- ---- the registers, 0 upstream, 1 in the middle, 2 downstream, as the calls leave them

abbrev pub upper_published : State
upper_published = put 5 (in_force curve_k) (new_state 11)

abbrev pub upper_withdrawn : State
upper_withdrawn = put 5 withdrawn (raised upper_published)

abbrev pub middle_hearing : State
middle_hearing = joined_with upper_published (new_state 12)

abbrev pub middle_knowing : State
middle_knowing = joined_with upper_withdrawn middle_hearing

-- the old parcel once more
abbrev pub middle_late : State
middle_late = joined_with upper_published middle_knowing

abbrev pub lower_hearing : State
lower_hearing = joined_with upper_published (new_state 13)

abbrev pub lower_knowing : State
lower_knowing = joined_with middle_late lower_hearing

-- ---- the calls

abbrev pub event : ℕ → Call → Answer → List ℕ → Event
event who call answer lent = record { who = who; call = call; answer = answer; lent = lent }

abbrev pub zeros : List ℕ
zeros = replicate 64 0

-- an accepted seal into 64 bytes
abbrev pub seals : (Block → Block) → (Block → Block) → ℕ → Mode → State → Event
seals E1 E2 who m s =
    event who (seal m zeros) (sealed (length (parcel_of E1 E2 m s)) (s.serial + 1) (start_of E1 s.station (s.serial + 1)))
    (parcel_of E1 E2 m s ++ drop (length (parcel_of E1 E2 m s)) zeros)

abbrev pub season : (Block → Block) → (Block → Block) → List Event
season E1 E2 =
    event 0 (publish 5 stages_k flows_k) accepted []
    ∷ seals E1 E2 0 Cbc upper_published
    ∷ event 1 (open_parcel (parcel_of E1 E2 Cbc upper_published) zeros) (opened 0 1 0) zeros
    ∷ event 1 (convert 5 (pos 100 ∷ []) (7 ∷ 7 ∷ [])) accepted (3500 ∷ 7 ∷ [])
    ∷ event 0 (withdraw 5) accepted []
    ∷ seals E1 E2 0 Cfb upper_withdrawn
    ∷ event 1 (open_parcel (parcel_of E1 E2 Cfb upper_withdrawn) zeros) (opened 1 0 0) zeros
    ∷ event 1 (convert 5 (pos 100 ∷ []) (7 ∷ 7 ∷ [])) (refused 2) (7 ∷ 7 ∷ [])
    ∷ event 1 (open_parcel (parcel_of E1 E2 Cbc upper_published) zeros) (opened 0 0 1) zeros
    ∷ event 2 (open_parcel (parcel_of E1 E2 Cbc upper_published) zeros) (opened 0 1 0) zeros
    ∷ event 2 (convert 5 (pos 100 ∷ []) (7 ∷ 7 ∷ [])) accepted (3500 ∷ 7 ∷ [])
    ∷ seals E1 E2 1 Ofb middle_late
    ∷ event 2 (open_parcel (parcel_of E1 E2 Ofb middle_late) zeros) (opened 1 0 0) zeros
    ∷ event 2 (convert 5 (pos 100 ∷ []) (7 ∷ 7 ∷ [])) (refused 2) (7 ∷ 7 ∷ [])
    ∷ event 2 (publish 5 stages_k flows_k) (refused 2) []
    ∷ []

pub record Season (E1 E2 : Block → Block) : Type 0 where
  pub states : ℕ → ℕ → State
  pub run : Run E1 E2 3 (season E1 E2) states
  pub upper_knows : Knows (season E1 E2) 15 0 5
  pub middle_knows : Knows (season E1 E2) 15 1 5
  pub lower_knows : Knows (season E1 E2) 15 2 5

abbrev pub SeasonIsARun : Type 0
SeasonIsARun = (E1 D1 E2 D2 : Block → Block) → Inverse E1 D1 → Inverse E2 D2 → Season E1 E2
