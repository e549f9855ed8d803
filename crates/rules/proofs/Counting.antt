-- Room after the withdrawals, what a refused call leaves, and what a serial counts.
use Rattle.std.proofs.Common.{◌≡◌, ℕ, zero, suc, ◌+◌, ◌<◌, Bool, false, cond, eqb, List, [], ◌∷◌, length, ℤ, Some, None, Option, sym, refl, ap, ◌∙◌, subst, arith}
use native.Mathlib.Decide.{ℕ_discrete}
use Rattle.std.proofs.lemmas.Bool.{eq-eqb, ne_eqb}
use Rattle.cipher.specs.declared.block.Block.{Block}
use Rattle.modes.specs.declared.mode.Mode.{Mode}
use Rattle.rules.specs.Registers.{Standing, State, one_if, tally, is_curve, in_force, withdrawn}
use Rattle.rules.specs.Bundles.{told}
use Rattle.rules.specs.Calls.{Call, Answer, Convert, Seal, joined, new_curve, staying, Does, publish, withdraw, convert, seal, open_parcel, take_in, refused, accepted, convert_1, convert_2, convert_6, convert_11, convert_7, converted, seal_18, seal_15, seal_11, written}
use Rattle.rules.specs.Runs.{Event, At}
use Rattle.rules.specs.Laws.{RoomExactly, left_by, RefusedKeeps, is_sealed, seals_before, SerialCounts}
use Rattle.rules.proofs.Lawfulness.{was_there}
use Rattle.rules.proofs.Moves.{Moves, moves, stays, places, marks, raises, merges}
use Rattle.rules.proofs.Tallies.{tally_grows}

-- ---- room

-- where one test passes just where exactly one of two others does
pub tally_split : (f g h : ℕ → Bool) → ((n : ℕ) → one_if (f n) ≡ one_if (g n) + one_if (h n)) → (m : ℕ) → tally f m ≡ tally g m + tally h m
unfolding tally
tally_split f g h k zero = refl
tally_split f g h k (suc m) = omega (arith, tally_split f g h k m, k (suc m))

stays_new_apart : (o y : Option Standing) → one_if (is_curve (joined o y)) ≡ one_if (staying o y) + one_if (new_curve o y)
stays_new_apart None None = refl
stays_new_apart None (Some (in_force d)) = refl
stays_new_apart None (Some withdrawn) = refl
stays_new_apart (Some withdrawn) y = refl
stays_new_apart (Some (in_force c)) None = refl
stays_new_apart (Some (in_force c)) (Some (in_force d)) = refl
stays_new_apart (Some (in_force c)) (Some withdrawn) = refl

pub room_exactly : RoomExactly
room_exactly s L xs =
    let a = tally_split (λ n. is_curve (joined (s.standing n) (told xs n))) (λ n. staying (s.standing n) (told xs n)) (λ n. new_curve (s.standing n) (told xs n)) (λ n. stays_new_apart (s.standing n) (told xs n)) 1024 in
    let b = tally_grows (λ n. staying (s.standing n) (told xs n)) (λ n. is_curve (s.standing n)) (λ n. was_there (s.standing n) (told xs n)) 1024 in
    (λ h. omega (arith, a, b, L.places, h), λ h. omega (arith, a, b, L.places, h))

-- ---- a refused call

not_refused : {X : Type 0} (k : ℕ) → refused k ≡ accepted → X
not_refused k h = absurd (let z : ◌≡◌ {A = ℕ} 0 1 = cc h in omega arith)

module _ (E1 E2 : Block → Block) (s : State) (k : ℕ) (lent : List ℕ) (t : State) where
  state_kept : (q : Call) → Moves E1 E2 s q (refused k) lent t → t ≡ s
  state_kept q (stays h _) = h
  state_kept q (places _ _ _ _ e _ _ _ _ _) = not_refused k e
  state_kept q (marks _ _ e _ _) = not_refused k e
  state_kept q (raises _ _ _ e _ _) = absurd (let z : ◌≡◌ {A = ℕ} 0 1 = cc e in omega arith)
  state_kept q (merges _ _ _ _ _ _ e _) = absurd (let z : ◌≡◌ {A = ℕ} 0 1 = cc e in omega arith)

  convert_kept : (n : ℕ) (st : List ℤ) (room : List ℕ) → Convert n st room s (refused k) lent → lent ≡ room
  convert_kept n st room (convert_1 _ _ h) = h
  convert_kept n st room (convert_2 _ _ _ h) = h
  convert_kept n st room (convert_6 _ _ _ h) = h
  convert_kept n st room (convert_11 _ _ _ _ _ h) = h
  convert_kept n st room (convert_7 _ _ _ _ _ _ h) = h
  convert_kept n st room (converted _ _ _ _ _ e _) = not_refused k e

  seal_kept : (m : Mode) (room : List ℕ) → Seal E1 E2 m room s (refused k) lent t → lent ≡ room
  seal_kept m room (seal_18 _ _ h _) = h
  seal_kept m room (seal_15 _ _ _ h _) = h
  seal_kept m room (seal_11 _ _ _ _ h _) = h
  seal_kept m room (written _ _ _ e _ _) = absurd (let z : ◌≡◌ {A = ℕ} 0 1 = cc e in omega arith)

  lent_kept : (q : Call) → Does E1 E2 s q (refused k) lent t → lent ≡ left_by q
  lent_kept (publish n st fl) h = h.1
  lent_kept (withdraw n) h = h.1
  lent_kept (convert n st room) h = convert_kept n st room h.0
  lent_kept (seal m room) h = seal_kept m room h
  lent_kept (open_parcel bytes work) h = h.1
  lent_kept (take_in bytes work) h = h.1

pub refused_keeps : RefusedKeeps
refused_keeps E1 E2 s q k lent t h = (state_kept E1 E2 s k lent t q (moves E1 E2 s (refused k) lent t q h), lent_kept E1 E2 s k lent t q h)

-- ---- the serial

-- a call raises the serial by one where it answers as an accepted seal, and else not
serial_step : (E1 E2 : Block → Block) (s : State) (q : Call) (a : Answer) (lent : List ℕ) (t : State) → Moves E1 E2 s q a lent t → t.serial ≡ s.serial + one_if (is_sealed a)
serial_step E1 E2 s q a lent t (stays h e) = omega (arith, ap (λ u. u.serial) h, ap one_if e)
serial_step E1 E2 s q a lent t (places _ _ _ _ e _ _ _ _ h) = omega (arith, ap (λ u. u.serial) h, ap (λ x. one_if (is_sealed x)) e)
serial_step E1 E2 s q a lent t (marks _ _ e _ h) = omega (arith, ap (λ u. u.serial) h, ap (λ x. one_if (is_sealed x)) e)
serial_step E1 E2 s q a lent t (raises _ _ _ e _ h) = omega (arith, ap (λ u. u.serial) h, ap (λ x. one_if (is_sealed x)) e)
serial_step E1 E2 s q a lent t (merges _ _ _ _ _ _ e h) = omega (arith, ap (λ u. u.serial) h.after, ap (λ x. one_if (is_sealed x)) e)

there_is : (log : List Event) (p : ℕ) → p < length log → (e : Event) × At log p e
there_is [] p h = absurd (omega arith)
there_is (x ∷ log) zero h = (x, refl)
there_is (x ∷ log) (suc p) h = there_is log p (omega arith)

seals-more : (log : List Event) (p i : ℕ) (e : Event) → At log p e → seals_before log (suc p) i ≡ seals_before log p i + one_if (cond (eqb e.who i) (is_sealed e.answer) false)
seals-more [] p i e h = absurd (let z : ◌≡◌ {A = ℕ} 0 1 = cc h in omega arith)
seals-more (x ∷ []) zero i e h = let q : x ≡ e = cc h in ap (λ y. one_if (cond (eqb y.who i) (is_sealed y.answer) false) + 0) q ∙ omega arith
seals-more (x ∷ y ∷ log) zero i e h = let q : x ≡ e = cc h in ap (λ y. one_if (cond (eqb y.who i) (is_sealed y.answer) false) + 0) q ∙ omega arith
seals-more (x ∷ log) (suc p) i e h = omega (arith, seals-more log p i e h)

pub serial_counts : SerialCounts
serial_counts E1 E2 n log w R zero i h l = ap (λ s. s.serial) (R.starts.new i l) ∙ none log
  where
    none : (log : List Event) → 0 ≡ seals_before log 0 i
    none [] = refl
    none (e ∷ log) = refl
serial_counts E1 E2 n log w R (suc p) i h l =
    let (e, at) = there_is log p (omega arith) in
    let ih = serial_counts E1 E2 n log w R p i (omega arith) l in
    go e at ih (ℕ_discrete e.who i) ∙ sym (seals-more log p i e at)
  where
    go : (e : Event) → At log p e → (w p i).serial ≡ seals_before log p i → Dec (e.who ≡ i)
        → (w (suc p) i).serial ≡ seals_before log p i + one_if (cond (eqb e.who i) (is_sealed e.answer) false)
    go e at ih (yes m) =
        let q = eq-eqb e.who i m in
        let a = serial_step E1 E2 (w p e.who) e.call e.answer e.lent (w (suc p) e.who) (moves E1 E2 (w p e.who) e.answer e.lent (w (suc p) e.who) e.call (R.steps p e at).does) in
        let b : (w (suc p) i).serial ≡ (w p i).serial + one_if (is_sealed e.answer) = subst (λ j. (w (suc p) j).serial ≡ (w p j).serial + one_if (is_sealed e.answer)) m a in
        rw q (omega (arith, b, ih))
    go e at ih (no d) =
        let q = ne_eqb e.who i d in
        let b = ap (λ s. s.serial) ((R.steps p e at).others i (λ m. d (sym m))) in
        rw q (omega (arith, b, ih))
