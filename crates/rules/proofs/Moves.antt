-- What a call can do to a register, by kinds, and what each kind keeps.
use Rattle.std.proofs.Common.{◌≡◌, ℕ, ◌<◌, ◌≤◌, false, ◌⊎◌, List, ℤ, Some, None, Option, sym, refl, ap, ◌∙◌, subst, inl, inr, arith}
use native.Mathlib.Decide.{ℕ_discrete}
use Rattle.std.proofs.lemmas.Bool.{eq-eqb, ne_eqb}
use Rattle.cipher.specs.declared.block.Block.{Block}
use Rattle.modes.specs.declared.mode.Mode.{Mode}
use Rattle.curve.specs.Curves.{Curve, Makes, points}
use Rattle.rules.specs.Registers.{Number, Standing, State, places_in_use, put, in_force, withdrawn}
use Rattle.rules.specs.Bundles.{Bundle, told}
use Rattle.rules.specs.Parcels.{Parcel, Reads}
use Rattle.rules.specs.Laws.{is_sealed}
use Rattle.rules.specs.Calls.{Call, Answer, Publish, Withdraw, Convert, raised, Seal, joined, merged, TooMany, TakeIn, Open, Does, publish, withdraw, convert, seal, open_parcel, take_in, accepted, sealed, opened, publish_1, publish_2, publish_3, publish_4, publish_5, published, withdraw_1, marked, convert_1, convert_2, convert_6, convert_11, convert_7, converted, seal_18, seal_15, seal_11, written, take_in_11, take_in_12, take_in_13, take_in_14, take_in_5, taken_in_from, open_8, open_9, open_10, opening}

-- these bytes were read as a bundle, and merged
pub record Merging (E1 : Block → Block) (s : State) (bytes : List ℕ) (t : State) : Type 0 where
  pub parcel : Parcel bytes
  pub text : List ℕ
  pub reads : Reads E1 parcel text
  pub bundle : Bundle text
  pub fits : TooMany s bundle.entries → ⊥
  pub after : t ≡ merged bundle.entries s

pub data Moves (E1 E2 : Block → Block) (s : State) (q : Call) (a : Answer) (lent : List ℕ) (t : State) : Type 0 where
  stays : t ≡ s → is_sealed a ≡ false → Moves E1 E2 s q a lent t
  places : (n : ℕ) (st : List ℤ) (fl : List ℕ) → q ≡ publish n st fl → a ≡ accepted → Number n → s.standing n ≡ None → Makes st fl → places_in_use s.standing < 32
      → t ≡ put n (in_force (points st fl)) s → Moves E1 E2 s q a lent t
  marks : (n : ℕ) → q ≡ withdraw n → a ≡ accepted → Number n → t ≡ put n withdrawn s → Moves E1 E2 s q a lent t
  raises : (size serial : ℕ) (start : Block) → a ≡ sealed size serial start → (s.serial ≡ 65535 → ⊥) → t ≡ raised s → Moves E1 E2 s q a lent t
  merges : (bytes work : List ℕ) (x y z : ℕ) → (q ≡ open_parcel bytes work) ⊎ (q ≡ take_in bytes work) → a ≡ opened x y z → Merging E1 s bytes t → Moves E1 E2 s q a lent t

module _ (E1 E2 : Block → Block) (s : State) (a : Answer) (lent : List ℕ) (t : State) where
  of_publish : (n : ℕ) (st : List ℤ) (fl : List ℕ) → Publish n st fl s a t → Moves E1 E2 s (publish n st fl) a lent t
  of_publish n st fl (publish_1 _ e h) = stays h (ap is_sealed e)
  of_publish n st fl (publish_2 _ _ e h) = stays h (ap is_sealed e)
  of_publish n st fl (publish_3 _ _ _ e h) = stays h (ap is_sealed e)
  of_publish n st fl (publish_4 _ _ _ _ e h) = stays h (ap is_sealed e)
  of_publish n st fl (publish_5 _ _ _ _ e h) = stays h (ap is_sealed e)
  of_publish n st fl (published i u m r e h) = places n st fl refl e i u m r h

  of_withdraw : (n : ℕ) → Withdraw n s a t → Moves E1 E2 s (withdraw n) a lent t
  of_withdraw n (withdraw_1 _ e h) = stays h (ap is_sealed e)
  of_withdraw n (marked i e h) = marks n refl e i h

  of_seal : (m : Mode) (room : List ℕ) → Seal E1 E2 m room s a lent t → Moves E1 E2 s (seal m room) a lent t
  of_seal m room (seal_18 _ e _ h) = stays h (ap is_sealed e)
  of_seal m room (seal_15 _ _ e _ h) = stays h (ap is_sealed e)
  of_seal m room (seal_11 _ _ _ e _ h) = stays h (ap is_sealed e)
  of_seal m room (written _ v _ e _ h) = raises _ _ _ e v h

  of_take : (q : Call) (bytes work : List ℕ) → (q ≡ open_parcel bytes work) ⊎ (q ≡ take_in bytes work) → (p : Parcel bytes) → TakeIn E1 p work s a t → Moves E1 E2 s q a lent t
  of_take q bytes work k p (take_in_11 _ e h) = stays h (ap is_sealed e)
  of_take q bytes work k p (take_in_12 _ _ _ _ e h) = stays h (ap is_sealed e)
  of_take q bytes work k p (take_in_13 _ _ _ _ e h) = stays h (ap is_sealed e)
  of_take q bytes work k p (take_in_14 _ _ _ _ _ e h) = stays h (ap is_sealed e)
  of_take q bytes work k p (take_in_5 _ _ _ _ _ _ e h) = stays h (ap is_sealed e)
  of_take q bytes work k p (taken_in_from xs _ r b _ f e h) = merges bytes work _ _ _ k e (record { parcel = p; text = xs; reads = r; bundle = b; fits = f; after = h })

  quiet : (n : ℕ) (st : List ℤ) (room : List ℕ) → Convert n st room s a lent → is_sealed a ≡ false
  quiet n st room (convert_1 _ e _) = ap is_sealed e
  quiet n st room (convert_2 _ _ e _) = ap is_sealed e
  quiet n st room (convert_6 _ _ e _) = ap is_sealed e
  quiet n st room (convert_11 _ _ _ _ e _) = ap is_sealed e
  quiet n st room (convert_7 _ _ _ _ _ e _) = ap is_sealed e
  quiet n st room (converted _ _ _ _ _ e _) = ap is_sealed e

  of_open : (bytes work : List ℕ) → Open E1 E2 bytes work s a t → Moves E1 E2 s (open_parcel bytes work) a lent t
  of_open bytes work (open_8 _ e h) = stays h (ap is_sealed e)
  of_open bytes work (open_9 _ _ e h) = stays h (ap is_sealed e)
  of_open bytes work (open_10 _ _ _ e h) = stays h (ap is_sealed e)
  of_open bytes work (opening p _ _ h) = of_take (open_parcel bytes work) bytes work (inl refl) p h

  pub moves : (q : Call) → Does E1 E2 s q a lent t → Moves E1 E2 s q a lent t
  moves (publish n st fl) h = of_publish n st fl h.0
  moves (withdraw n) h = of_withdraw n h.0
  moves (convert n st room) h = stays h.1 (quiet n st room h.0)
  moves (seal m room) h = of_seal m room h
  moves (open_parcel bytes work) h = of_open bytes work h.0
  moves (take_in bytes work) h = of_take (take_in bytes work) bytes work (inr refl) h.0.parcel h.0.taken

-- ---- one number is put, or all are joined

pub put_here : (n : ℕ) (x : Standing) (s : State) → (put n x s).standing n ≡ Some x
put_here n x s = let q = eq-eqb n n refl in rw q

pub put_other : (n : ℕ) (x : Standing) (s : State) (m : ℕ) → (m ≡ n → ⊥) → (put n x s).standing m ≡ s.standing m
put_other n x s m d = let q = ne_eqb m n d in rw q

-- what stands after, by whether it is the number that was put
pub put_cases : (n : ℕ) (x : Standing) (s t : State) → t ≡ put n x s → (m : ℕ) → ((m ≡ n) × (t.standing m ≡ Some x)) ⊎ ((m ≡ n → ⊥) × (t.standing m ≡ s.standing m))
put_cases n x s t h m = go (ℕ_discrete m n)
  where
    go : Dec (m ≡ n) → ((m ≡ n) × (t.standing m ≡ Some x)) ⊎ ((m ≡ n → ⊥) × (t.standing m ≡ s.standing m))
    go (yes e) = inl (e, ap (λ u. u.standing m) h ∙ subst (λ k. (put n x s).standing k ≡ Some x) (sym e) (put_here n x s))
    go (no d) = inr (d, ap (λ u. u.standing m) h ∙ put_other n x s m d)

joined_mark : (o y : Option Standing) → o ≡ Some withdrawn → joined o y ≡ Some withdrawn
joined_mark o y h = rw h

pub joined-marked : (o y : Option Standing) → y ≡ Some withdrawn → joined o y ≡ Some withdrawn
joined-marked None y h = h
joined-marked (Some withdrawn) y h = refl
joined-marked (Some (in_force c)) y h = rw h

pub joined_from : (o y : Option Standing) (x : Standing) → joined o y ≡ Some x → (o ≡ Some x) ⊎ (y ≡ Some x)
joined_from None y x h = inr h
joined_from (Some withdrawn) y x h = inl h
joined_from (Some (in_force c)) None x h = inl h
joined_from (Some (in_force c)) (Some (in_force d)) x h = inl h
joined_from (Some (in_force c)) (Some withdrawn) x h = inr h

-- ---- what every move keeps

never : {X : Type 0} (o : Option Standing) (x : Standing) → o ≡ None → o ≡ Some x → X
never o x h k = absurd (let z : ◌≡◌ {A = ℕ} 0 1 = cc (h, k) in omega arith)

other_mark : {X : Type 0} (o : Option Standing) (c : Curve) → o ≡ Some withdrawn → o ≡ Some (in_force c) → X
other_mark o c h k = absurd (let z : ◌≡◌ {A = ℕ} 0 1 = cc (h, k) in omega arith)

module _ (E1 E2 : Block → Block) (s : State) (q : Call) (a : Answer) (lent : List ℕ) (t : State) where
  pub station_kept : Moves E1 E2 s q a lent t → t.station ≡ s.station
  station_kept (stays h _) = ap (λ u. u.station) h
  station_kept (places _ _ _ _ _ _ _ _ _ h) = ap (λ u. u.station) h
  station_kept (marks _ _ _ _ h) = ap (λ u. u.station) h
  station_kept (raises _ _ _ _ _ h) = ap (λ u. u.station) h
  station_kept (merges _ _ _ _ _ _ _ h) = ap (λ u. u.station) h.after

  pub serial_grows : Moves E1 E2 s q a lent t → s.serial ≤ t.serial
  serial_grows (stays h _) = omega (arith, ap (λ u. u.serial) h)
  serial_grows (places _ _ _ _ _ _ _ _ _ h) = omega (arith, ap (λ u. u.serial) h)
  serial_grows (marks _ _ _ _ h) = omega (arith, ap (λ u. u.serial) h)
  serial_grows (raises _ _ _ _ _ h) = omega (arith, ap (λ u. u.serial) h)
  serial_grows (merges _ _ _ _ _ _ _ h) = omega (arith, ap (λ u. u.serial) h.after)

  pub marks_kept : (n : ℕ) → s.standing n ≡ Some withdrawn → Moves E1 E2 s q a lent t → t.standing n ≡ Some withdrawn
  marks_kept n m (stays h _) = ap (λ u. u.standing n) h ∙ m
  marks_kept n m (places k st fl _ _ _ f _ _ h) = go (put_cases k (in_force (points st fl)) s t h n)
    where
      go : ((n ≡ k) × (t.standing n ≡ Some (in_force (points st fl)))) ⊎ ((n ≡ k → ⊥) × (t.standing n ≡ s.standing n)) → t.standing n ≡ Some withdrawn
      go (inl (e, _)) = never (s.standing n) withdrawn (ap s.standing e ∙ f) m
      go (inr (_, e)) = e ∙ m
  marks_kept n m (marks k _ _ _ h) = go (put_cases k withdrawn s t h n)
    where
      go : ((n ≡ k) × (t.standing n ≡ Some withdrawn)) ⊎ ((n ≡ k → ⊥) × (t.standing n ≡ s.standing n)) → t.standing n ≡ Some withdrawn
      go (inl (_, e)) = e
      go (inr (_, e)) = e ∙ m
  marks_kept n m (raises _ _ _ _ _ h) = ap (λ u. u.standing n) h ∙ m
  marks_kept n m (merges _ _ _ _ _ _ _ h) = ap (λ u. u.standing n) h.after ∙ joined_mark (s.standing n) (told h.bundle.entries n) m

  -- where a mark comes from
  pub data MarkFrom (n : ℕ) : Type 0 where
    mark_was : s.standing n ≡ Some withdrawn → MarkFrom n
    mark_set : q ≡ withdraw n → a ≡ accepted → MarkFrom n
    mark_read : (bytes work : List ℕ) (x y z : ℕ) → (q ≡ open_parcel bytes work) ⊎ (q ≡ take_in bytes work) → a ≡ opened x y z → (h : Merging E1 s bytes t)
        → told h.bundle.entries n ≡ Some withdrawn → MarkFrom n

  pub mark_from : (n : ℕ) → t.standing n ≡ Some withdrawn → Moves E1 E2 s q a lent t → MarkFrom n
  mark_from n m (stays h _) = mark_was (sym (ap (λ u. u.standing n) h) ∙ m)
  mark_from n m (places k st fl _ _ _ _ _ _ h) = go (put_cases k (in_force (points st fl)) s t h n)
    where
      go : ((n ≡ k) × (t.standing n ≡ Some (in_force (points st fl)))) ⊎ ((n ≡ k → ⊥) × (t.standing n ≡ s.standing n)) → MarkFrom n
      go (inl (_, e)) = other_mark (t.standing n) (points st fl) m e
      go (inr (_, e)) = mark_was (sym e ∙ m)
  mark_from n m (marks k qe ae _ h) = go (put_cases k withdrawn s t h n)
    where
      go : ((n ≡ k) × (t.standing n ≡ Some withdrawn)) ⊎ ((n ≡ k → ⊥) × (t.standing n ≡ s.standing n)) → MarkFrom n
      go (inl (e, _)) = mark_set (qe ∙ ap withdraw (sym e)) ae
      go (inr (_, e)) = mark_was (sym e ∙ m)
  mark_from n m (raises _ _ _ _ _ h) = mark_was (sym (ap (λ u. u.standing n) h) ∙ m)
  mark_from n m (merges bytes work x y z k e h) = go (joined_from (s.standing n) (told h.bundle.entries n) withdrawn (sym (ap (λ u. u.standing n) h.after) ∙ m))
    where
      go : (s.standing n ≡ Some withdrawn) ⊎ (told h.bundle.entries n ≡ Some withdrawn) → MarkFrom n
      go (inl u) = mark_was u
      go (inr u) = mark_read bytes work x y z k e h u

  -- where a curve comes from
  pub data CurveFrom (n : ℕ) (c : Curve) : Type 0 where
    curve_was : s.standing n ≡ Some (in_force c) → CurveFrom n c
    curve_set : (st : List ℤ) (fl : List ℕ) → q ≡ publish n st fl → a ≡ accepted → c ≡ points st fl → CurveFrom n c
    curve_read : (bytes work : List ℕ) (x y z : ℕ) → (q ≡ open_parcel bytes work) ⊎ (q ≡ take_in bytes work) → a ≡ opened x y z → (h : Merging E1 s bytes t)
        → told h.bundle.entries n ≡ Some (in_force c) → CurveFrom n c

  pub curve_from : (n : ℕ) (c : Curve) → t.standing n ≡ Some (in_force c) → Moves E1 E2 s q a lent t → CurveFrom n c
  curve_from n c m (stays h _) = curve_was (sym (ap (λ u. u.standing n) h) ∙ m)
  curve_from n c m (places k st fl qe ae _ _ _ _ h) = go (put_cases k (in_force (points st fl)) s t h n)
    where
      go : ((n ≡ k) × (t.standing n ≡ Some (in_force (points st fl)))) ⊎ ((n ≡ k → ⊥) × (t.standing n ≡ s.standing n)) → CurveFrom n c
      go (inl (e, f)) = curve_set st fl (qe ∙ ap (λ x. publish x st fl) (sym e)) ae (cc (m, f))
      go (inr (_, e)) = curve_was (sym e ∙ m)
  curve_from n c m (marks k _ _ _ h) = go (put_cases k withdrawn s t h n)
    where
      go : ((n ≡ k) × (t.standing n ≡ Some withdrawn)) ⊎ ((n ≡ k → ⊥) × (t.standing n ≡ s.standing n)) → CurveFrom n c
      go (inl (_, e)) = other_mark (t.standing n) c e m
      go (inr (_, e)) = curve_was (sym e ∙ m)
  curve_from n c m (raises _ _ _ _ _ h) = curve_was (sym (ap (λ u. u.standing n) h) ∙ m)
  curve_from n c m (merges bytes work x y z k e h) = go (joined_from (s.standing n) (told h.bundle.entries n) (in_force c) (sym (ap (λ u. u.standing n) h.after) ∙ m))
    where
      go : (s.standing n ≡ Some (in_force c)) ⊎ (told h.bundle.entries n ≡ Some (in_force c)) → CurveFrom n c
      go (inl u) = curve_was u
      go (inr u) = curve_read bytes work x y z k e h u
