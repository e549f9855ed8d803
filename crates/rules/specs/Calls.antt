-- The calls, each as a relation between the state before, the arguments, the answer, the lent list at the return, and
-- the state after. Of the cases of a call exactly one fits: each refusal says its condition and that no earlier one holds.
--   Call, Answer       what is called, and what it answers
--   Publish, Withdraw, Convert, Seal, Open, TakeIn   the rule of each call
--   Does E1 E2 s q a lent t   in the state s the call q answers a, leaves `lent` in what was lent, and the state t
use Rattle.std.specs.Prelude.{◌≡◌, ℕ, ◌+◌, ◌-◌, ◌<◌, ◌≤◌, Bool, true, false, List, [], ◌++◌, length, drop, replicate, ℤ, pos, Some, None, Option, ◌≢◌, slice_index, slice_index_or}
use Rattle.cipher.specs.declared.block.Block.{Block}
use Rattle.modes.specs.declared.mode.Mode.{Mode}
use Rattle.modes.specs.declared.mode.Mode.TheVariants.{Ecb}
use Rattle.curve.specs.Curves.{Curve, points, Makes, FlowAt, Covered}
use Rattle.rules.specs.Registers.{Number, Standing, State, count, places_in_use, put, in_force, withdrawn}
use Rattle.rules.specs.Bundles.{Entry, Bundle, told, PadsTo}
use Rattle.rules.specs.Parcels.{start_of, parcel_of, Sized, Parcel, Tagged, Text, Reads}

-- a list or buffer that is lent to a call is given as it is when the call begins
pub data Call : Type 0 where
  publish : (n : ℕ) (stages : List ℤ) (flows : List ℕ) → Call
  withdraw : (n : ℕ) → Call
  convert : (n : ℕ) (stages : List ℤ) (room : List ℕ) → Call
  seal : (m : Mode) (room : List ℕ) → Call
  open_parcel : (bytes work : List ℕ) → Call
  take_in : (bytes work : List ℕ) → Call

-- a refusal has its number, an acceptance its values: seal the length, the raised serial and the starting block, open and
-- taking in how many numbers were newly marked, how many curves placed, how many passed over because marked here
pub data Answer : Type 0 where
  refused : (number : ℕ) → Answer
  accepted : Answer
  sealed : (size serial : ℕ) (start : Block) → Answer
  opened : (marked placed passed : ℕ) → Answer

-- ---- publish

pub data Publish (n : ℕ) (stages : List ℤ) (flows : List ℕ) (s : State) (a : Answer) (t : State) : Type 0 where
  publish_1 : (Number n → ⊥) → a ≡ refused 1 → t ≡ s → Publish n stages flows s a t
  publish_2 : Number n → s.standing n ≡ Some withdrawn → a ≡ refused 2 → t ≡ s → Publish n stages flows s a t
  publish_3 : Number n → (s.standing n ≢ Some withdrawn) → (Makes stages flows → ⊥) → a ≡ refused 3 → t ≡ s → Publish n stages flows s a t
  publish_4 : (c : Curve) → Number n → s.standing n ≡ Some (in_force c) → Makes stages flows → a ≡ refused 4 → t ≡ s → Publish n stages flows s a t
  publish_5 : Number n → s.standing n ≡ None → Makes stages flows → 32 ≤ places_in_use s.standing → a ≡ refused 5 → t ≡ s → Publish n stages flows s a t
  published : Number n → s.standing n ≡ None → Makes stages flows → places_in_use s.standing < 32 → a ≡ accepted
      → t ≡ put n (in_force (points stages flows)) s → Publish n stages flows s a t

-- ---- withdraw

-- the mark is set, and a curve in force is gone
pub data Withdraw (n : ℕ) (s : State) (a : Answer) (t : State) : Type 0 where
  withdraw_1 : (Number n → ⊥) → a ≡ refused 1 → t ≡ s → Withdraw n s a t
  marked : Number n → a ≡ accepted → t ≡ put n withdrawn s → Withdraw n s a t

-- ---- convert

abbrev pub AllCovered : Curve → List ℤ → Type 0
AllCovered c stages = (k : ℕ) → k < length stages → Covered c (slice_index_or stages k (pos 0))

-- the first flows are those of the stages, in order, and the rest of the list stays
pub record Flows (c : Curve) (stages : List ℤ) (room lent : List ℕ) : Type 0 where
  pub size : length lent ≡ length room
  pub flow : (k : ℕ) → k < length stages → FlowAt c (slice_index_or stages k (pos 0)) (slice_index lent k)
  pub rest : drop (length stages) lent ≡ drop (length stages) room

pub data Convert (n : ℕ) (stages : List ℤ) (room : List ℕ) (s : State) (a : Answer) (lent : List ℕ) : Type 0 where
  convert_1 : (Number n → ⊥) → a ≡ refused 1 → lent ≡ room → Convert n stages room s a lent
  convert_2 : Number n → s.standing n ≡ Some withdrawn → a ≡ refused 2 → lent ≡ room → Convert n stages room s a lent
  convert_6 : Number n → s.standing n ≡ None → a ≡ refused 6 → lent ≡ room → Convert n stages room s a lent
  convert_11 : (c : Curve) → Number n → s.standing n ≡ Some (in_force c) → length room < length stages → a ≡ refused 11 → lent ≡ room → Convert n stages room s a lent
  convert_7 : (c : Curve) → Number n → s.standing n ≡ Some (in_force c) → length stages ≤ length room → (AllCovered c stages → ⊥) → a ≡ refused 7 → lent ≡ room → Convert n stages room s a lent
  converted : (c : Curve) → Number n → s.standing n ≡ Some (in_force c) → length stages ≤ length room → AllCovered c stages → a ≡ accepted
      → Flows c stages room lent → Convert n stages room s a lent

-- ---- seal

abbrev pub raised : State → State
raised s = record { station = s.station; serial = s.serial + 1; standing = s.standing }

-- the parcel is written at the front and nothing after it
pub data Seal (E1 E2 : Block → Block) (m : Mode) (room : List ℕ) (s : State) (a : Answer) (lent : List ℕ) (t : State) : Type 0 where
  seal_18 : m ≡ Ecb → a ≡ refused 18 → lent ≡ room → t ≡ s → Seal E1 E2 m room s a lent t
  seal_15 : (m ≢ Ecb) → s.serial ≡ 65535 → a ≡ refused 15 → lent ≡ room → t ≡ s → Seal E1 E2 m room s a lent t
  seal_11 : (m ≢ Ecb) → (s.serial ≢ 65535) → length room < length (parcel_of E1 E2 m s) → a ≡ refused 11 → lent ≡ room → t ≡ s → Seal E1 E2 m room s a lent t
  written : (m ≢ Ecb) → (s.serial ≢ 65535) → length (parcel_of E1 E2 m s) ≤ length room
      → a ≡ sealed (length (parcel_of E1 E2 m s)) (s.serial + 1) (start_of E1 s.station (s.serial + 1))
      → lent ≡ parcel_of E1 E2 m s ++ drop (length (parcel_of E1 E2 m s)) room → t ≡ raised s → Seal E1 E2 m room s a lent t

-- ---- taking in: of one number, what stands here and what arrives

-- a withdrawal is marked; a curve is put in force where the number is neither marked nor in force
abbrev pub joined : Option Standing → Option Standing → Option Standing
joined None arriving = arriving
joined (Some withdrawn) arriving = Some withdrawn
joined (Some (in_force c)) None = Some (in_force c)
joined (Some (in_force c)) (Some (in_force d)) = Some (in_force c)
joined (Some (in_force c)) (Some withdrawn) = Some withdrawn

abbrev pub newly_marked : Option Standing → Option Standing → Bool
newly_marked None None = false
newly_marked None (Some (in_force d)) = false
newly_marked None (Some withdrawn) = true
newly_marked (Some (in_force c)) None = false
newly_marked (Some (in_force c)) (Some (in_force d)) = false
newly_marked (Some (in_force c)) (Some withdrawn) = true
newly_marked (Some withdrawn) arriving = false

-- a curve neither marked here nor in force here
abbrev pub new_curve : Option Standing → Option Standing → Bool
new_curve None None = false
new_curve None (Some (in_force d)) = true
new_curve None (Some withdrawn) = false
new_curve (Some x) arriving = false

abbrev pub passed_over : Option Standing → Option Standing → Bool
passed_over None arriving = false
passed_over (Some (in_force c)) arriving = false
passed_over (Some withdrawn) None = false
passed_over (Some withdrawn) (Some (in_force d)) = true
passed_over (Some withdrawn) (Some withdrawn) = false

-- a curve in force here that the bundle does not withdraw
abbrev pub staying : Option Standing → Option Standing → Bool
staying None arriving = false
staying (Some withdrawn) arriving = false
staying (Some (in_force c)) None = true
staying (Some (in_force c)) (Some (in_force d)) = true
staying (Some (in_force c)) (Some withdrawn) = false

-- how many numbers pass a test of what stands here and what arrives
abbrev pub meeting : (Option Standing → Option Standing → Bool) → State → List Entry → ℕ
meeting test s xs = count (λ n. test (s.standing n) (told xs n))

abbrev pub merged : List Entry → State → State
merged xs s = record { station = s.station; serial = s.serial; standing = λ n. joined (s.standing n) (told xs n) }

-- a curve in force here has other points
pub record Clash (s : State) (xs : List Entry) : Type 0 where
  pub number : ℕ
  pub here : Curve
  pub arriving : Curve
  pub now_in_force : s.standing number ≡ Some (in_force here)
  pub told_other : told xs number ≡ Some (in_force arriving)
  pub differ : here ≡ arriving → ⊥

-- more new curves than places after the bundle's withdrawals
abbrev pub TooMany : State → List Entry → Type 0
TooMany s xs = 32 - meeting staying s xs < meeting new_curve s xs

pub data TakeIn (E1 : Block → Block) {bytes : List ℕ} (p : Parcel bytes) (work : List ℕ) (s : State) (a : Answer) (t : State) : Type 0 where
  take_in_11 : length work < length p.body → a ≡ refused 11 → t ≡ s → TakeIn E1 p work s a t
  take_in_12 : (text : List ℕ) → length p.body ≤ length work → Text E1 p text → ((xs : List ℕ) → PadsTo xs text → ⊥) → a ≡ refused 12 → t ≡ s → TakeIn E1 p work s a t
  take_in_13 : (xs : List ℕ) → length p.body ≤ length work → Reads E1 p xs → (Bundle xs → ⊥) → a ≡ refused 13 → t ≡ s → TakeIn E1 p work s a t
  take_in_14 : (xs : List ℕ) → length p.body ≤ length work → Reads E1 p xs → (b : Bundle xs) → Clash s b.entries → a ≡ refused 14 → t ≡ s → TakeIn E1 p work s a t
  take_in_5 : (xs : List ℕ) → length p.body ≤ length work → Reads E1 p xs → (b : Bundle xs) → (Clash s b.entries → ⊥) → TooMany s b.entries → a ≡ refused 5 → t ≡ s → TakeIn E1 p work s a t
  taken_in_from : (xs : List ℕ) → length p.body ≤ length work → Reads E1 p xs → (b : Bundle xs) → (Clash s b.entries → ⊥) → (TooMany s b.entries → ⊥)
      → a ≡ opened (meeting newly_marked s b.entries) (meeting new_curve s b.entries) (meeting passed_over s b.entries)
      → t ≡ merged b.entries s → TakeIn E1 p work s a t

-- ---- open: bytes arrive, are checked by the second cipher and taken in by the first

pub data Open (E1 E2 : Block → Block) (bytes work : List ℕ) (s : State) (a : Answer) (t : State) : Type 0 where
  open_8 : (Sized bytes → ⊥) → a ≡ refused 8 → t ≡ s → Open E1 E2 bytes work s a t
  open_9 : Sized bytes → (Parcel bytes → ⊥) → a ≡ refused 9 → t ≡ s → Open E1 E2 bytes work s a t
  open_10 : (p : Parcel bytes) → Sized bytes → (Tagged E2 p → ⊥) → a ≡ refused 10 → t ≡ s → Open E1 E2 bytes work s a t
  opening : (p : Parcel bytes) → Sized bytes → Tagged E2 p → TakeIn E1 p work s a t → Open E1 E2 bytes work s a t

-- a checked parcel has the length and the header of one; who checked it, and with which cipher, is not asked
pub record TakesIn (E1 : Block → Block) (bytes work : List ℕ) (s : State) (a : Answer) (t : State) : Type 0 where
  pub size : Sized bytes
  pub parcel : Parcel bytes
  pub taken : TakeIn E1 parcel work s a t

-- ---- every call

-- the work buffer of open and of taking in is all zero on every way out; publish and withdraw are lent nothing that changes
abbrev pub Does : (Block → Block) → (Block → Block) → State → Call → Answer → List ℕ → State → Type 0
Does E1 E2 s (publish n stages flows) a lent t = Publish n stages flows s a t × (lent ≡ [])
Does E1 E2 s (withdraw n) a lent t = Withdraw n s a t × (lent ≡ [])
Does E1 E2 s (convert n stages room) a lent t = Convert n stages room s a lent × (t ≡ s)
Does E1 E2 s (seal m room) a lent t = Seal E1 E2 m room s a lent t
Does E1 E2 s (open_parcel bytes work) a lent t = Open E1 E2 bytes work s a t × (lent ≡ replicate (length work) 0)
Does E1 E2 s (take_in bytes work) a lent t = TakesIn E1 bytes work s a t × (lent ≡ replicate (length work) 0)
