-- Lists of calls over many registers, and what is promised of every such list.
--   Event                   a call at one register, what it answered, and what was lent at its return
--   At log p e              the event at place p of the list, the first at 0
--   Run E1 E2 n log w       the list is a run of n registers over these two ciphers: w p i is register i after p calls
--   Knows log p i n         just before place p, the register i knows that the number n is withdrawn
--   Promises log            the three promises
--   GoesOn, CarriesOn       a call carries every run on, with the promises
use Rattle.std.specs.Prelude.{◌≡◌, ℕ, suc, ◌<◌, ◌≤◌, ◌⊎◌, List, [], ◌∷◌, ◌++◌, length, take, ℤ, Some, ◌≢◌}
use Rattle.std.specs.List.{slice_get}
use Rattle.cipher.specs.declared.block.Block.{Block}
use Rattle.modes.specs.declared.mode.Mode.{Mode}
use Rattle.curve.specs.Curves.{Curve, points}
use Rattle.rules.specs.Registers.{State, new_state}
use Rattle.rules.specs.Calls.{Call, Answer, Flows, Does, publish, withdraw, convert, seal, open_parcel, take_in, refused, accepted, sealed, opened}

pub record Event : Type 0 where
  pub who : ℕ
  pub call : Call
  pub answer : Answer
  pub lent : List ℕ

abbrev pub At : List Event → ℕ → Event → Type 0
At log p e = slice_get log p ≡ Some e

-- new registers 0 to n − 1, no two of one station number
pub record Fresh (n : ℕ) (w : ℕ → State) : Type 0 where
  pub new : (i : ℕ) → i < n → w i ≡ new_state (w i).station
  pub stations : (i : ℕ) → i < n → (w i).station ≤ 65535
  pub distinct : (i j : ℕ) → i < n → j < n → (w i).station ≡ (w j).station → i ≡ j

-- one call at one register; no other is touched
pub record Step (E1 E2 : Block → Block) (n : ℕ) (w : ℕ → State) (e : Event) (v : ℕ → State) : Type 0 where
  pub known : e.who < n
  pub does : Does E1 E2 (w e.who) e.call e.answer e.lent (v e.who)
  pub others : (j : ℕ) → (j ≢ e.who) → v j ≡ w j

-- each call on the state that the previous ones left, refused calls included
pub record Run (E1 E2 : Block → Block) (n : ℕ) (log : List Event) (w : ℕ → ℕ → State) : Type 0 where
  pub starts : Fresh n (w 0)
  pub steps : (p : ℕ) (e : Event) → At log p e → Step E1 E2 n (w p) e (w (suc p))

-- ---- where a parcel comes from, and what a register knows

-- an accepted seal, with this length, serial and starting block
pub record AcceptedSeal (e : Event) : Type 0 where
  pub mode : Mode
  pub room : List ℕ
  pub size : ℕ
  pub serial : ℕ
  pub start : Block
  pub called : e.call ≡ seal mode room
  pub answered : e.answer ≡ sealed size serial start

-- an accepted open of these bytes; taking in counts as open
pub record AcceptedOpen (e : Event) (bytes : List ℕ) : Type 0 where
  pub work : List ℕ
  pub marked : ℕ
  pub placed : ℕ
  pub passed : ℕ
  pub called : (e.call ≡ open_parcel bytes work) ⊎ (e.call ≡ take_in bytes work)
  pub answered : e.answer ≡ opened marked placed passed

-- before place p of the list, an accepted seal wrote exactly these bytes
pub record SealedBefore (log : List Event) (p : ℕ) (bytes : List ℕ) : Type 0 where
  pub place : ℕ
  pub event : Event
  pub earlier : place < p
  pub there : At log place event
  pub sealing : AcceptedSeal event
  pub wrote : bytes ≡ take sealing.size event.lent

-- by its own accepted withdraw, or by its accepted open of what an earlier seal wrote at a register that knew it when sealing
pub data Knows (log : List Event) : ℕ → ℕ → ℕ → Type 0 where
  by_withdraw : {p i n : ℕ} (q : ℕ) (e : Event) → q < p → At log q e → e.who ≡ i → e.call ≡ withdraw n → e.answer ≡ accepted → Knows log p i n
  by_open : {p i n : ℕ} (q : ℕ) (e : Event) (bytes : List ℕ) → q < p → At log q e → e.who ≡ i → AcceptedOpen e bytes
      → (f : SealedBefore log q bytes) → Knows log f.place f.event.who n → Knows log p i n

-- ---- the promises

-- once a register knows a withdrawal, each later convert of that number there says so and leaves the list of flows as it was
abbrev pub WithdrawnStaysWithdrawn : List Event → Type 0
WithdrawnStaysWithdrawn log = (p : ℕ) (e : Event) (n : ℕ) (stages : List ℤ) (room : List ℕ) → At log p e → e.call ≡ convert n stages room
    → Knows log p e.who n → (e.answer ≡ refused 2) × (e.lent ≡ room)

-- no two accepted seals have the same starting block
abbrev pub StartingBlocksDiffer : List Event → Type 0
StartingBlocksDiffer log = (p q : ℕ) (e f : Event) → At log p e → At log q f → (p ≢ q) → (x : AcceptedSeal e) (y : AcceptedSeal f) → x.start ≢ y.start

-- each accepted parcel came from an earlier seal in the list
abbrev pub AllFromSeals : List Event → Type 0
AllFromSeals log = (p : ℕ) (e : Event) (bytes : List ℕ) → At log p e → AcceptedOpen e bytes → SealedBefore log p bytes

-- before place p, an accepted publish of the number n, at whichever register, with these points
pub record PublishedBefore (log : List Event) (p n : ℕ) (c : Curve) : Type 0 where
  pub place : ℕ
  pub event : Event
  pub stages : List ℤ
  pub flows : List ℕ
  pub earlier : place < p
  pub there : At log place event
  pub called : event.call ≡ publish n stages flows
  pub answered : event.answer ≡ accepted
  pub curve : c ≡ points stages flows

-- what a convert says, where each accepted parcel came from a seal: 2 exactly where the withdrawal is known; and accepted,
-- the flows of the formula at its stages for the points of one earlier publish of that number
pub record ConvertSays (log : List Event) (p : ℕ) (e : Event) (n : ℕ) (stages : List ℤ) (room : List ℕ) : Type 0 where
  pub only_known : e.answer ≡ refused 2 → Knows log p e.who n
  pub always_known : Knows log p e.who n → e.answer ≡ refused 2
  pub flows : e.answer ≡ accepted → (c : Curve) × PublishedBefore log p n c × Flows c stages room e.lent

abbrev pub FlowsComeFromAPublish : List Event → Type 0
FlowsComeFromAPublish log = AllFromSeals log → (p : ℕ) (e : Event) (n : ℕ) (stages : List ℤ) (room : List ℕ) → At log p e → e.call ≡ convert n stages room
    → ConvertSays log p e n stages room

pub record Promises (log : List Event) : Type 0 where
  pub withdrawn_stays_withdrawn : WithdrawnStaysWithdrawn log
  pub starting_blocks_differ : StartingBlocksDiffer log
  pub flows_come_from_a_publish : FlowsComeFromAPublish log

-- ---- one call more

-- the list with this event is a run again, the register stands at t, no other is touched, and the promises hold
pub record GoesOn (E1 E2 : Block → Block) (n : ℕ) (log : List Event) (w : ℕ → ℕ → State) (e : Event) (t : State) : Type 0 where
  pub history : ℕ → ℕ → State
  pub run : Run E1 E2 n (log ++ (e ∷ [])) history
  pub same : (p : ℕ) → p ≤ length log → history p ≡ w p
  pub here : history (suc (length log)) e.who ≡ t
  pub others : (j : ℕ) → (j ≢ e.who) → history (suc (length log)) j ≡ w (length log) j
  pub promises : Promises (log ++ (e ∷ []))

-- every run whose register `who` stands at s goes on with the call
abbrev pub CarriesOn : (Block → Block) → (Block → Block) → State → Call → Answer → List ℕ → State → Type 0
CarriesOn E1 E2 s q a lent t = (n : ℕ) (log : List Event) (w : ℕ → ℕ → State) (who : ℕ) → Run E1 E2 n log w → who < n → w (length log) who ≡ s
    → GoesOn E1 E2 n log w (record { who = who; call = q; answer = a; lent = lent }) t
