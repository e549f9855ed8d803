-- What is proved of the rules, for every two ciphers that keep the inverse laws.
--   OneList           two lawful lists with one encoding are the same list
--   BundleFits        a lawful bundle has 4 to 8,196 bytes, padded a multiple of 8
--   CopyOf            the bundle of a lawful register is lawful and tells each number's standing
--   OnePadding        a text is padded in one way
--   SealedIsRead      what a lawful register seals is a parcel, well tagged, that reads as its bundle
--   SealedIsTakenIn   a register that opens it holds the join of both, unless points differ or places lack
--   RoomExactly       taking in is refused for want of places exactly where more than 32 curves would be in force
--   RefusedKeeps      a refused call leaves the register and what was lent as they were, the work buffer zero
--   SerialCounts      a register's serial is the number of its accepted seals
--   Pinned            one state and one set of arguments have one answer, one content of what was lent, one state after
--   StaysLawful       a call leaves a lawful register lawful
--   EveryRun          the three promises, of every run
--   EveryCall         a call's relation alone carries every run on
use Rattle.std.specs.Prelude.{◌≡◌, ℕ, zero, suc, ◌+◌, ◌-◌, ◌%◌, ◌<◌, ◌≤◌, Bool, true, false, cond, List, [], ◌∷◌, length, replicate, Some, Option, ◌==◌, ◌≢◌}
use Rattle.cipher.specs.declared.block.Block.{Block}
use Rattle.cipher.specs.Blocks.{Inverse}
use Rattle.modes.specs.declared.mode.Mode.{Mode}
use Rattle.modes.specs.declared.mode.Mode.TheVariants.{Ecb}
use Rattle.curve.specs.Curves.{Curve}
use Rattle.rules.specs.Registers.{Standing, State, one_if, count, places_in_use, Lawful, in_force}
use Rattle.rules.specs.Bundles.{Entry, encoding, LawfulList, told, entries_of, bundle_of, padded, PadsTo}
use Rattle.rules.specs.Parcels.{parcel_of, Sized, Parcel, Tagged, Reads}
use Rattle.rules.specs.Calls.{Call, Answer, joined, newly_marked, new_curve, passed_over, staying, merged, TooMany, Does, publish, withdraw, convert, seal, open_parcel, take_in, refused, accepted, sealed, opened}
use Rattle.rules.specs.Runs.{Event, Run, CarriesOn}

abbrev pub OneList : Type 0
OneList = (xs ys : List Entry) → LawfulList xs → LawfulList ys → encoding xs ≡ encoding ys → xs ≡ ys

abbrev pub BundleFits : Type 0
BundleFits = (xs : List Entry) → LawfulList xs → (4 ≤ length (encoding xs)) × (length (encoding xs) ≤ 8196) × (length (padded (encoding xs)) % 8 ≡ 0)

abbrev pub CopyOf : Type 0
CopyOf = (s : State) → Lawful s → LawfulList (entries_of s) × ((n : ℕ) → told (entries_of s) n ≡ s.standing n)

abbrev pub OnePadding : Type 0
OnePadding = (xs text : List ℕ) → length text % 8 ≡ 0 → (PadsTo xs text → text ≡ padded xs) × (text ≡ padded xs → PadsTo xs text)

pub record BundleLaws : Type 0 where
  pub one_list : OneList
  pub fits : BundleFits
  pub copy_of : CopyOf
  pub one_padding : OnePadding

pub record SealedReads (E1 E2 : Block → Block) (m : Mode) (s : State) : Type 0 where
  pub size : Sized (parcel_of E1 E2 m s)
  pub parcel : Parcel (parcel_of E1 E2 m s)
  pub tagged : Tagged E2 parcel
  pub reads : Reads E1 parcel (bundle_of s)

abbrev pub SealedIsRead : Type 0
SealedIsRead = (E1 D1 E2 : Block → Block) → Inverse E1 D1 → (m : Mode) (s : State) → Lawful s → (m ≢ Ecb) → s.serial < 65535 → SealedReads E1 E2 m s

-- how many numbers pass a test of what stands at one register and at another
abbrev pub meets : (Option Standing → Option Standing → Bool) → State → State → ℕ
meets test s other = count (λ n. test (s.standing n) (other.standing n))

abbrev pub joined_with : State → State → State
joined_with other s = record { station = s.station; serial = s.serial; standing = λ n. joined (s.standing n) (other.standing n) }

-- no number is in force at both with other points, and there are places enough after the other's withdrawals
pub record Agree (s other : State) : Type 0 where
  pub points : (n : ℕ) (c d : Curve) → s.standing n ≡ Some (in_force c) → other.standing n ≡ Some (in_force d) → c ≡ d
  pub places : meets new_curve s other ≤ 32 - meets staying s other

abbrev pub SealedIsTakenIn : Type 0
SealedIsTakenIn = (E1 D1 E2 : Block → Block) → Inverse E1 D1 → (m : Mode) (other : State) → Lawful other → (m ≢ Ecb) → other.serial < 65535
    → (s : State) → Agree s other → (work : List ℕ) → length (parcel_of E1 E2 m other) ≤ length work + 16
    → Does E1 E2 s (open_parcel (parcel_of E1 E2 m other) work) (opened (meets newly_marked s other) (meets new_curve s other) (meets passed_over s other)) (replicate (length work) 0) (joined_with other s)

pub record ParcelLaws : Type 0 where
  pub read : SealedIsRead
  pub taken_in : SealedIsTakenIn

abbrev pub StaysLawful : Type 0
StaysLawful = (E1 E2 : Block → Block) (s : State) → Lawful s → (q : Call) (a : Answer) (lent : List ℕ) (t : State) → Does E1 E2 s q a lent t → Lawful t

abbrev pub RoomExactly : Type 0
RoomExactly = (s : State) → Lawful s → (xs : List Entry)
    → (TooMany s xs → 32 < places_in_use (merged xs s).standing) × (32 < places_in_use (merged xs s).standing → TooMany s xs)

-- what a refused call leaves in what it was lent
abbrev pub left_by : Call → List ℕ
left_by (publish n stages flows) = []
left_by (withdraw n) = []
left_by (convert n stages room) = room
left_by (seal m room) = room
left_by (open_parcel bytes work) = replicate (length work) 0
left_by (take_in bytes work) = replicate (length work) 0

abbrev pub RefusedKeeps : Type 0
RefusedKeeps = (E1 E2 : Block → Block) (s : State) (q : Call) (number : ℕ) (lent : List ℕ) (t : State) → Does E1 E2 s q (refused number) lent t → (t ≡ s) × (lent ≡ left_by q)

abbrev pub is_sealed : Answer → Bool
is_sealed (refused number) = false
is_sealed accepted = false
is_sealed (sealed size serial start) = true
is_sealed (opened marks places passes) = false

-- how many accepted seals there are at the register i before place p of the list
abbrev pub seals_before : List Event → ℕ → ℕ → ℕ
seals_before [] p i = 0
seals_before (e ∷ log) zero i = 0
seals_before (e ∷ log) (suc p) i = one_if (cond (e.who == i) (is_sealed e.answer) false) + seals_before log p i

abbrev pub SerialCounts : Type 0
SerialCounts = (E1 E2 : Block → Block) (n : ℕ) (log : List Event) (w : ℕ → ℕ → State) → Run E1 E2 n log w
    → (p i : ℕ) → p ≤ length log → i < n → (w p i).serial ≡ seals_before log p i

abbrev pub Pinned : Type 0
Pinned = (E1 E2 : Block → Block) (s : State) → Lawful s → (q : Call) (a b : Answer) (lent given : List ℕ) (t u : State)
    → Does E1 E2 s q a lent t → Does E1 E2 s q b given u → (a ≡ b) × (lent ≡ given) × (t ≡ u)

-- what holds of the list of every run of any number of registers over any two ciphers
abbrev pub EveryRun : (List Event → Type 0) → Type 0
EveryRun P = (E1 D1 E2 D2 : Block → Block) → Inverse E1 D1 → Inverse E2 D2 → (n : ℕ) (log : List Event) (w : ℕ → ℕ → State) → Run E1 E2 n log w → P log

abbrev pub EveryCall : Type 0
EveryCall = (E1 D1 E2 D2 : Block → Block) → Inverse E1 D1 → Inverse E2 D2 → (s : State) (q : Call) (a : Answer) (lent : List ℕ) (t : State)
    → Does E1 E2 s q a lent t → CarriesOn E1 E2 s q a lent t
