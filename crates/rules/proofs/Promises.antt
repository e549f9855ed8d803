-- The three promises, of one run.
use Rattle.std.proofs.Common.{◌≡◌, ℕ, zero, suc, ◌+◌, ◌<◌, ◌≤◌, List, [], ◌∷◌, ℤ, Some, None, sym, refl, ap, ◌∙◌, subst, le_refl, arith}
use native.Mathlib.Decide.{ℕ_discrete, dec_le, dec_lt}
use Rattle.std.specs.List.{slice_get}
use Rattle.cipher.specs.declared.block.Block.{Block}
use Rattle.cipher.specs.Blocks.{Sound, Inverse}
use Rattle.curve.specs.Curves.{Curve}
use Rattle.rules.specs.Registers.{Number, State, Lawful, in_force, withdrawn}
use Rattle.rules.specs.Bundles.{told}
use Rattle.rules.specs.Calls.{Call, Convert, Does, convert}
use Rattle.rules.specs.Runs.{Event, At, Run, AcceptedSeal, AcceptedOpen, SealedBefore, Knows, WithdrawnStaysWithdrawn, StartingBlocksDiffer, AllFromSeals, PublishedBefore, FlowsComeFromAPublish, Promises, by_withdraw, by_open}
use Rattle.rules.proofs.Accepted.{withdraw_marks, opened_merges, Sealing, sealing, convert_marked, convert_says_2, convert_flows}
use Rattle.rules.proofs.Lawfulness.{lawful_new, lawful_moved}
use Rattle.rules.proofs.Moves.{Merging, Moves, moves, joined-marked, station_kept, serial_grows, marks_kept, MarkFrom, mark_from, CurveFrom, curve_from, mark_was, mark_set, mark_read, curve_was, curve_set, curve_read}
use Rattle.rules.proofs.Parcels.{sealed_told}

-- a list that has an event at a place has one at each place before
at_before : (xs : List Event) (p q : ℕ) (e : Event) → slice_get xs p ≡ Some e → q ≤ p → (f : Event) × (slice_get xs q ≡ Some f)
at_before [] p q e h l = absurd (let z : ◌≡◌ {A = ℕ} 0 1 = cc h in omega arith)
at_before (x ∷ xs) p zero e h l = (x, refl)
at_before (x ∷ xs) zero (suc q) e h l = absurd (omega arith)
at_before (x ∷ xs) (suc p) (suc q) e h l = at_before xs p q e h (omega arith)

later : {log : List Event} {p i n : ℕ} (r : ℕ) → p ≤ r → Knows log p i n → Knows log r i n
later r l (by_withdraw q e b at who call ans) = by_withdraw q e (omega arith) at who call ans
later r l (by_open q e bytes b at who ent f k) = by_open q e bytes (omega arith) at who ent f k

later_published : {log : List Event} {p n : ℕ} {c : Curve} (r : ℕ) → p ≤ r → PublishedBefore log p n c → PublishedBefore log r n c
later_published r l h =
    record {
      place = h.place;
      event = h.event;
      stages = h.stages;
      flows = h.flows;
      earlier = omega (arith, h.earlier);
      there = h.there;
      called = h.called;
      answered = h.answered;
      curve = h.curve;
    }

-- equal starting blocks come from equal blocks
same_block : (E D : Block → Block) → Inverse E D → (a b : Block) → Sound a → Sound b → E a ≡ E b → a ≡ b
same_block E D k a b p q h = sym (k.dec_enc a p) ∙ ap D h ∙ k.dec_enc b q

module _ (E1 D1 E2 : Block → Block) (k : Inverse E1 D1) (n : ℕ) (log : List Event) (w : ℕ → ℕ → State) (R : Run E1 E2 n log w) where
  -- there are events up to the place p
  Upto : ℕ → Type 0
  Upto p = (q : ℕ) → q < p → (f : Event) × At log q f

  upto : (p : ℕ) (e : Event) → At log p e → Upto p
  unfolding Upto
  upto p e at q l = at_before log p q e at (omega arith)

  less : (p r : ℕ) → r ≤ p → Upto p → Upto r
  unfolding Upto
  less p r l u q m = u q (omega arith)

  last : (p : ℕ) → Upto (suc p) → (f : Event) × At log p f
  unfolding Upto
  last p u = u p (omega arith)

  move : (p : ℕ) (e : Event) → At log p e → Moves E1 E2 (w p e.who) e.call e.answer e.lent (w (suc p) e.who)
  move p e at = moves E1 E2 (w p e.who) e.answer e.lent (w (suc p) e.who) e.call (R.steps p e at).does

  doing : (p : ℕ) (e : Event) → At log p e → (q : Call) → e.call ≡ q → Does E1 E2 (w p e.who) q e.answer e.lent (w (suc p) e.who)
  doing p e at q h = subst (λ c. Does E1 E2 (w p e.who) c e.answer e.lent (w (suc p) e.who)) h (R.steps p e at).does

  -- what holds of each register through a step that keeps it
  stepped : (P : State → Type 0) (p : ℕ) (e : Event) → At log p e → (i : ℕ) → (i ≡ e.who → P (w (suc p) e.who)) → P (w p i) → P (w (suc p) i)
  stepped P p e at i h x = go (ℕ_discrete i e.who)
    where
      go : Dec (i ≡ e.who) → P (w (suc p) i)
      go (yes m) = subst (λ j. P (w (suc p) j)) (sym m) (h m)
      go (no d) = subst P (sym ((R.steps p e at).others i d)) x

  lawful_at : (p : ℕ) → Upto p → (i : ℕ) → i < n → Lawful (w p i)
  lawful_at zero u i l = lawful_new (w 0 i) (R.starts.new i l) (R.starts.stations i l)
  lawful_at (suc p) u i l =
      let (e, at) = last p u in
      let ih = lawful_at p (less (suc p) p (omega arith) u) in
      stepped Lawful p e at i (λ m. lawful_moved E1 E2 (w p e.who) (ih e.who (R.steps p e at).known) e.call e.answer e.lent (w (suc p) e.who) (move p e at)) (ih i l)

  lawful_before : (p : ℕ) (e : Event) → At log p e → Lawful (w p e.who)
  lawful_before p e at = lawful_at p (upto p e at) e.who (R.steps p e at).known

  station_at : (p : ℕ) → Upto p → (i : ℕ) → (w p i).station ≡ (w 0 i).station
  station_at zero u i = refl
  station_at (suc p) u i =
      let (e, at) = last p u in
      let ih = station_at p (less (suc p) p (omega arith) u) i in
      stepped (λ s. s.station ≡ (w 0 i).station) p e at i (λ m. station_kept E1 E2 (w p e.who) e.call e.answer e.lent (w (suc p) e.who) (move p e at) ∙ ap (λ j. (w p j).station) (sym m) ∙ ih) ih

  serial_lasts : (p q i : ℕ) → q ≤ p → Upto p → (w q i).serial ≤ (w p i).serial
  serial_lasts zero q i l u = let z : q ≡ 0 = omega arith in rw z (le_refl _)
  serial_lasts (suc p) q i l u = let (e, at) = last p u in go e at (ℕ_discrete q (suc p)) (λ m. serial_lasts p q i m (less (suc p) p (omega arith) u))
    where
      go : (e : Event) → At log p e → Dec (q ≡ suc p) → (q ≤ p → (w q i).serial ≤ (w p i).serial) → (w q i).serial ≤ (w (suc p) i).serial
      go e at (yes m) ih = rw m (le_refl _)
      go e at (no d) ih =
          let b : q ≤ p = omega arith in
          stepped (λ s. (w q i).serial ≤ s.serial) p e at i (λ m. omega (arith, ih b, serial_grows E1 E2 (w p e.who) e.call e.answer e.lent (w (suc p) e.who) (move p e at), ap (λ j. (w p j).serial) m)) (ih b)

  -- a mark stays
  marks_last : (p q i x : ℕ) → q ≤ p → Upto p → (w q i).standing x ≡ Some withdrawn → (w p i).standing x ≡ Some withdrawn
  marks_last zero q i x l u h = let z : q ≡ 0 = omega arith in subst (λ q. (w q i).standing x ≡ Some withdrawn) z h
  marks_last (suc p) q i x l u h = let (e, at) = last p u in go e at (ℕ_discrete q (suc p)) (λ m. marks_last p q i x m (less (suc p) p (omega arith) u) h)
    where
      go : (e : Event) → At log p e → Dec (q ≡ suc p) → (q ≤ p → (w p i).standing x ≡ Some withdrawn) → (w (suc p) i).standing x ≡ Some withdrawn
      go e at (yes m) ih = subst (λ q. (w q i).standing x ≡ Some withdrawn) m h
      go e at (no d) ih =
          let b : (w p i).standing x ≡ Some withdrawn = ih (omega arith) in
          stepped (λ s. s.standing x ≡ Some withdrawn) p e at i (λ m. marks_kept E1 E2 (w p e.who) e.call e.answer e.lent (w (suc p) e.who) x (ap (λ j. (w p j).standing x) (sym m) ∙ b) (move p e at)) b

  -- ---- seals

  seal_at : (p : ℕ) (e : Event) → At log p e → (a : AcceptedSeal e) → Sealing E1 E2 (w p e.who) e.answer e.lent (w (suc p) e.who) a.mode a.size a.start
  seal_at p e at a = sealing E1 E2 (w p e.who) e.answer e.lent (w (suc p) e.who) a.mode a.room a.size a.serial a.start a.answered (doing p e at _ a.called)

  -- what is read out of a parcel that came from a seal of the list is what stood at the sealing register
  says : (p : ℕ) (bytes : List ℕ) (f : SealedBefore log p bytes) (s t : State) (h : Merging E1 s bytes t) (x : ℕ) → told h.bundle.entries x ≡ (w f.place f.event.who).standing x
  says p bytes f s t h x =
      let at = f.there in
      let a = seal_at f.place f.event at f.sealing in
      let L = lawful_before f.place f.event at in
      sealed_told E1 D1 E2 k f.sealing.mode (w f.place f.event.who) L a.not_ecb (omega (arith, L.serial_fits, a.serial_left)) bytes (f.wrote ∙ a.front_is) h.parcel h.text h.reads h.bundle x

  block_at : (p : ℕ) (e : Event) → Block
  block_at p e = record { left = (w p e.who).station; right = (w p e.who).serial + 1 }

  block_sound : (p : ℕ) (e : Event) → At log p e → Sound (block_at p e)
  unfolding block_at
  block_sound p e at = let L = lawful_before p e at in (omega (arith, L.station_fits), omega (arith, L.serial_fits))

  starts_apart : (p q : ℕ) (e f : Event) → p < q → At log p e → At log q f → (x : AcceptedSeal e) (y : AcceptedSeal f) → x.start ≡ y.start → ⊥
  unfolding block_at
  starts_apart p q e f l at bt x y same =
      let a = seal_at p e at x in
      let b = seal_at q f bt y in
      let xy : block_at p e ≡ block_at q f = same_block E1 D1 k (block_at p e) (block_at q f) (block_sound p e at) (block_sound q f bt) (sym a.begins ∙ same ∙ b.begins) in
      let st : (w 0 e.who).station ≡ (w 0 f.who).station = sym (station_at p (upto p e at) e.who) ∙ ap (λ z. z.left) xy ∙ station_at q (upto q f bt) f.who in
      let who : e.who ≡ f.who = R.starts.distinct e.who f.who (R.steps p e at).known (R.steps q f bt).known st in
      let up : (w (suc p) e.who).serial ≤ (w q e.who).serial = serial_lasts q (suc p) e.who l (upto q f bt) in
      let sr : (w p e.who).serial + 1 ≡ (w q f.who).serial + 1 = ap (λ z. z.right) xy in
      omega (arith, up, sr, a.serial_raised, ap (λ j. (w q j).serial) who)

  starting_blocks_differ : StartingBlocksDiffer log
  starting_blocks_differ p q e f at bt d x y same = go (dec_lt p q)
    where
      go : Dec (p < q) → ⊥
      go (yes l) = starts_apart p q e f l at bt x y same
      go (no l) = starts_apart q p f e (omega (arith, d, l)) bt at y x (sym same)

  -- ---- who knows has the mark

  knows_marked : {p i x : ℕ} → Knows log p i x → Upto p → (w p i).standing x ≡ Some withdrawn
  knows_marked {p} {i} {x} (by_withdraw q e l at who call ans) u =
      let m : (w (suc q) e.who).standing x ≡ Some withdrawn = withdraw_marks E1 E2 (w q e.who) e.answer e.lent (w (suc q) e.who) x ans (doing q e at _ call).0 in
      subst (λ j. (w p j).standing x ≡ Some withdrawn) who (marks_last p (suc q) e.who x l u m)
  knows_marked {p} {i} {x} (by_open q e bytes l at who ent f g) u =
      let there : (w f.place f.event.who).standing x ≡ Some withdrawn = knows_marked g (upto f.place f.event f.there) in
      let h = opened_merges E1 E2 (w q e.who) e.answer e.lent (w (suc q) e.who) e.call bytes ent.work ent.marked ent.placed ent.passed ent.called ent.answered (R.steps q e at).does in
      let r : told h.bundle.entries x ≡ Some withdrawn = says q bytes f (w q e.who) (w (suc q) e.who) h x ∙ there in
      let m : (w (suc q) e.who).standing x ≡ Some withdrawn = ap (λ s. s.standing x) h.after ∙ joined-marked ((w q e.who).standing x) (told h.bundle.entries x) r in
      subst (λ j. (w p j).standing x ≡ Some withdrawn) who (marks_last p (suc q) e.who x l u m)

  converting : (p : ℕ) (e : Event) (x : ℕ) (st : List ℤ) (room : List ℕ) → At log p e → e.call ≡ convert x st room → Convert x st room (w p e.who) e.answer e.lent
  converting p e x st room at call = (doing p e at _ call).0

  -- a marked number is a number
  marked_number : (p : ℕ) (e : Event) (x : ℕ) → At log p e → (w p e.who).standing x ≡ Some withdrawn → Number x
  marked_number p e x at m = go (dec_le 1 x) (dec_le x 1024)
    where
      out : (Number x → ⊥) → Number x
      out o = let z = (lawful_before p e at).outside x o in absurd (let y : ◌≡◌ {A = ℕ} 0 1 = cc (m, z) in omega arith)

      go : Dec (1 ≤ x) → Dec (x ≤ 1024) → Number x
      go (yes a) (yes b) = (a, b)
      go (no a) d = out (λ i. a i.0)
      go (yes a) (no b) = out (λ i. b i.1)

  withdrawn_stays_withdrawn : WithdrawnStaysWithdrawn log
  withdrawn_stays_withdrawn p e x st room at call g =
      let m = knows_marked g (upto p e at) in
      convert_marked E1 E2 (w p e.who) e.answer e.lent (w (suc p) e.who) x st room (marked_number p e x at m) m (converting p e x st room at call)

  -- ---- and where parcels come from seals, who has the mark knows, and each curve was published

  module _ (H : AllFromSeals log) where
    MarksKnown : ℕ → Type 0
    MarksKnown p = (r : ℕ) → r ≤ p → (i x : ℕ) → i < n → (w r i).standing x ≡ Some withdrawn → Knows log r i x

    marks_known : (p : ℕ) → Upto p → MarksKnown p
    unfolding MarksKnown
    marks_known zero u r l i x b m =
        let z : r ≡ 0 = omega arith in
        let h : (w 0 i).standing x ≡ None = ap (λ s. s.standing x) (R.starts.new i b) in
        let g : (w 0 i).standing x ≡ Some withdrawn = subst (λ r. (w r i).standing x ≡ Some withdrawn) z m in
        absurd (let y : ◌≡◌ {A = ℕ} 0 1 = cc (h, g) in omega arith)
    marks_known (suc p) u r l i x b m = let (e, at) = last p u in go e at (marks_known p (less (suc p) p (omega arith) u)) (ℕ_discrete r (suc p))
      where
        now : (e : Event) → At log p e → MarksKnown p → i ≡ e.who → MarkFrom E1 E2 (w p e.who) e.call e.answer e.lent (w (suc p) e.who) x → Knows log (suc p) i x
        now e at ih who (mark_was h) = later (suc p) (omega arith) (ih p (le_refl p) i x b (ap (λ j. (w p j).standing x) who ∙ h))
        now e at ih who (mark_set call ans) = by_withdraw p e (omega arith) at (sym who) call ans
        now e at ih who (mark_read bytes work a c d call ans h t) =
            let ent : AcceptedOpen e bytes = record { work = work; marked = a; placed = c; passed = d; called = call; answered = ans } in
            let f = H p e bytes at ent in
            let there = sym (says p bytes f (w p e.who) (w (suc p) e.who) h x) ∙ t in
            by_open p e bytes (omega arith) at (sym who) ent f (ih f.place (omega (arith, f.earlier)) f.event.who x (R.steps f.place f.event f.there).known there)

        here : (e : Event) → At log p e → MarksKnown p → (w (suc p) i).standing x ≡ Some withdrawn → Dec (i ≡ e.who) → Knows log (suc p) i x
        here e at ih m (yes who) = now e at ih who (mark_from E1 E2 (w p e.who) e.call e.answer e.lent (w (suc p) e.who) x (ap (λ j. (w (suc p) j).standing x) (sym who) ∙ m) (move p e at))
        here e at ih m (no d) = later (suc p) (omega arith) (ih p (le_refl p) i x b (ap (λ s. s.standing x) (sym ((R.steps p e at).others i d)) ∙ m))

        go : (e : Event) → At log p e → MarksKnown p → Dec (r ≡ suc p) → Knows log r i x
        go e at ih (yes q) = subst (λ r. Knows log r i x) (sym q) (here e at ih (subst (λ r. (w r i).standing x ≡ Some withdrawn) q m) (ℕ_discrete i e.who))
        go e at ih (no q) = ih r (omega arith) i x b m

    CurvesPublished : ℕ → Type 0
    CurvesPublished p = (r : ℕ) → r ≤ p → (i x : ℕ) (c : Curve) → i < n → (w r i).standing x ≡ Some (in_force c) → PublishedBefore log r x c

    curves_published : (p : ℕ) → Upto p → CurvesPublished p
    unfolding CurvesPublished
    curves_published zero u r l i x c b m =
        let z : r ≡ 0 = omega arith in
        let h : (w 0 i).standing x ≡ None = ap (λ s. s.standing x) (R.starts.new i b) in
        let g : (w 0 i).standing x ≡ Some (in_force c) = subst (λ r. (w r i).standing x ≡ Some (in_force c)) z m in
        absurd (let y : ◌≡◌ {A = ℕ} 0 1 = cc (h, g) in omega arith)
    curves_published (suc p) u r l i x c b m = let (e, at) = last p u in go e at (curves_published p (less (suc p) p (omega arith) u)) (ℕ_discrete r (suc p))
      where
        now : (e : Event) → At log p e → CurvesPublished p → i ≡ e.who → CurveFrom E1 E2 (w p e.who) e.call e.answer e.lent (w (suc p) e.who) x c → PublishedBefore log (suc p) x c
        now e at ih who (curve_was h) = later_published (suc p) (omega arith) (ih p (le_refl p) i x c b (ap (λ j. (w p j).standing x) who ∙ h))
        now e at ih who (curve_set st fl call ans is) =
            record { place = p; event = e; stages = st; flows = fl; earlier = omega arith; there = at; called = call; answered = ans; curve = is }
        now e at ih who (curve_read bytes work a d g call ans h t) =
            let ent : AcceptedOpen e bytes = record { work = work; marked = a; placed = d; passed = g; called = call; answered = ans } in
            let f = H p e bytes at ent in
            let there = sym (says p bytes f (w p e.who) (w (suc p) e.who) h x) ∙ t in
            later_published (suc p) (omega (arith, f.earlier)) (ih f.place (omega (arith, f.earlier)) f.event.who x c (R.steps f.place f.event f.there).known there)

        here : (e : Event) → At log p e → CurvesPublished p → (w (suc p) i).standing x ≡ Some (in_force c) → Dec (i ≡ e.who) → PublishedBefore log (suc p) x c
        here e at ih m (yes who) = now e at ih who (curve_from E1 E2 (w p e.who) e.call e.answer e.lent (w (suc p) e.who) x c (ap (λ j. (w (suc p) j).standing x) (sym who) ∙ m) (move p e at))
        here e at ih m (no d) = later_published (suc p) (omega arith) (ih p (le_refl p) i x c b (ap (λ s. s.standing x) (sym ((R.steps p e at).others i d)) ∙ m))

        go : (e : Event) → At log p e → CurvesPublished p → Dec (r ≡ suc p) → PublishedBefore log r x c
        go e at ih (yes q) = subst (λ r. PublishedBefore log r x c) (sym q) (here e at ih (subst (λ r. (w r i).standing x ≡ Some (in_force c)) q m) (ℕ_discrete i e.who))
        go e at ih (no q) = ih r (omega arith) i x c b m

  flows_come_from_a_publish : FlowsComeFromAPublish log
  unfolding MarksKnown CurvesPublished
  flows_come_from_a_publish H p e x st room at call =
      record {
        only_known = λ a. marks_known H p (upto p e at) p (le_refl p) e.who x (R.steps p e at).known (convert_says_2 E1 E2 (w p e.who) e.answer e.lent (w (suc p) e.who) x st room a (converting p e x st room at call));
        always_known = λ g. (withdrawn_stays_withdrawn p e x st room at call g).0;
        flows = λ a.
            let (c, h, fl) = convert_flows E1 E2 (w p e.who) e.answer e.lent (w (suc p) e.who) x st room a (converting p e x st room at call) in
            (c, curves_published H p (upto p e at) p (le_refl p) e.who x c (R.steps p e at).known h, fl);
      }

  pub promises : Promises log
  promises =
      record {
        withdrawn_stays_withdrawn = withdrawn_stays_withdrawn;
        starting_blocks_differ = starting_blocks_differ;
        flows_come_from_a_publish = flows_come_from_a_publish;
      }
