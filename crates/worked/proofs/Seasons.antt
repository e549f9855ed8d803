-- The season is a run of three registers, and at its end all three know of the withdrawal.
use Rattle.std.proofs.Common.{◌≡◌, ℕ, zero, suc, ◌+◌, ◌-◌, ◌<◌, ◌≤◌, false, List, [], ◌∷◌, ◌++◌, length, get_or, take, drop, pos, Some, None, Option, sym, refl, ap, ◌∙◌, inl, le_refl, arith, length-append, take_all}
use native.Mathlib.Decide.{ℕ_discrete}
use lib.Seq.{take-append-le}
use Rattle.std.proofs.lemmas.Int.{ints}
use Rattle.std.proofs.lemmas.Bool.{ne_eqb}
use Rattle.cipher.specs.declared.block.Block.{Block}
use Rattle.cipher.specs.Blocks.{Inverse}
use Rattle.modes.specs.declared.mode.Mode.{Mode}
use Rattle.modes.specs.declared.mode.Mode.TheVariants.{Ecb, Cbc, Cfb, Ofb}
use Rattle.curve.specs.Curves.{Curve, FlowAt}
use Rattle.rules.specs.Registers.{Number, Standing, State, tally, Lawful, new_state, in_force, withdrawn}
use Rattle.rules.specs.Bundles.{entries_up_to}
use Rattle.rules.specs.Parcels.{start_of, parcel_of}
use Rattle.rules.specs.Calls.{Call, Answer, AllCovered, raised, newly_marked, new_curve, passed_over, staying, Does, publish, withdraw, convert, seal, open_parcel, refused, accepted, sealed, opened, published, publish_2, marked, converted, convert_2, written}
use Rattle.rules.specs.Runs.{Event, At, Run, AcceptedOpen, SealedBefore, Knows, by_withdraw, by_open}
use Rattle.rules.specs.Laws.{meets, joined_with, Agree}
use Rattle.rules.proofs.Extends.{every_call}
use Rattle.rules.proofs.Lawfulness.{lawful_new, stays_lawful}
use Rattle.rules.proofs.Meetings.{sealed_is_taken_in}
use Rattle.worked.specs.Season.{stages_k, flows_k, curve_k, upper_published, upper_withdrawn, middle_hearing, middle_knowing, middle_late, lower_hearing, lower_knowing, event, zeros, seals, season, Season, SeasonIsARun}
use Rattle.worked.proofs.Curves.{k_is_lawful, k_at_100}

-- ---- registers that have only the number 5

five : Number 5
five = (omega arith, omega arith)

never : {X : Type 0} (o : Option Standing) (c : Curve) → o ≡ None → o ≡ Some (in_force c) → X
never o c h k = absurd (let z : ◌≡◌ {A = ℕ} 0 1 = cc (h, k) in omega arith)

marked_curve : {X : Type 0} (c : Curve) → ◌≡◌ {A = Option Standing} (Some withdrawn) (Some (in_force c)) → X
marked_curve c h = absurd (let z : ◌≡◌ {A = ℕ} 0 1 = cc h in omega arith)

-- nothing but the number 5 stands there
abbrev OnlyFive : State → Type 0
OnlyFive s = (n : ℕ) → (n ≡ 5 → ⊥) → s.standing n ≡ None

published_five : OnlyFive upper_published
published_five n d = let q = ne_eqb n 5 d in rw q

withdrawn_five : OnlyFive upper_withdrawn
withdrawn_five n d = let q = ne_eqb n 5 d in rw q

late_five : OnlyFive middle_late
late_five n d = let q = ne_eqb n 5 d in rw q

-- where 5 is not in force at both, the points agree
agree : (s other : State) → OnlyFive other → ((c d : Curve) → s.standing 5 ≡ Some (in_force c) → other.standing 5 ≡ Some (in_force d) → ⊥)
    → (new stay : ℕ) → meets new_curve s other ≡ new → meets staying s other ≡ stay → new ≤ 32 - stay → Agree s other
agree s other o f new stay x y r = record { points = λ n c d h k. go n c d h k (ℕ_discrete n 5); places = omega (arith, x, y, r) }
  where
    go : (n : ℕ) (c d : Curve) → s.standing n ≡ Some (in_force c) → other.standing n ≡ Some (in_force d) → Dec (n ≡ 5) → c ≡ d
    go n c d h k (yes e) = absurd (f c d (ap s.standing (sym e) ∙ h) (ap other.standing (sym e) ∙ k))
    go n c d h k (no q) = never (other.standing n) d (o n q) k

-- ---- the calls

module _ (E1 D1 E2 D2 : Block → Block) (k : Inverse E1 D1) (l : Inverse E2 D2) where
  -- a call as its rule has it
  data Done (s : State) (q : Call) (a : Answer) (lent : List ℕ) (t : State) : Type 0 where
    done : Does E1 E2 s q a lent t → Done s q a lent t

  publishing : Done (new_state 11) (publish 5 stages_k flows_k) accepted [] upper_published
  unfolding tally
  publishing = let z : ◌≡◌ {A = ℕ} (tally (λ _. false) 1024) 0 = refl in done (published five refl (refl, k_is_lawful) (omega (arith, z)) refl refl, refl)

  withdrawing : Done (raised upper_published) (withdraw 5) accepted [] upper_withdrawn
  withdrawing = done (marked five refl refl, refl)

  sealing : (m : Mode) (s : State) → (m ≡ Ecb → ⊥) → s.serial < 65535 → length (parcel_of E1 E2 m s) ≤ 64
      → Done s (seal m zeros) (sealed (length (parcel_of E1 E2 m s)) (s.serial + 1) (start_of E1 s.station (s.serial + 1))) (parcel_of E1 E2 m s ++ drop (length (parcel_of E1 E2 m s)) zeros) (raised s)
  sealing m s u v r = done (written u (λ h. omega (arith, v, h)) r refl refl refl)

  converting : (s : State) → s.standing 5 ≡ Some (in_force curve_k) → Done s (convert 5 (pos 100 ∷ []) (7 ∷ 7 ∷ [])) accepted (3500 ∷ 7 ∷ []) s
  converting s h = done (converted curve_k five h (omega arith) covered refl (record { size = refl; flow = flow; rest = refl }), refl)
    where
      covered : AllCovered curve_k (pos 100 ∷ [])
      covered zero m = (omega (arith, ints), omega (arith, ints))
      covered (suc j) m = absurd (omega arith)

      flow : (j : ℕ) → j < 1 → FlowAt curve_k (get_or (pos 100 ∷ []) j (pos 0)) (get_or (3500 ∷ 7 ∷ []) j 0)
      flow zero m = k_at_100
      flow (suc j) m = absurd (omega arith)

  turned_away : (s : State) → s.standing 5 ≡ Some withdrawn → Done s (convert 5 (pos 100 ∷ []) (7 ∷ 7 ∷ [])) (refused 2) (7 ∷ 7 ∷ []) s
  turned_away s h = done (convert_2 five h refl refl, refl)

  not_again : (s : State) → s.standing 5 ≡ Some withdrawn → Done s (publish 5 stages_k flows_k) (refused 2) [] s
  not_again s h = done (publish_2 five h refl refl, refl)

  -- a register opens what another sealed
  opens : (m : Mode) (other s : State) → Lawful other → (m ≡ Ecb → ⊥) → other.serial < 65535 → length (parcel_of E1 E2 m other) ≤ 80 → Agree s other
      → Done s (open_parcel (parcel_of E1 E2 m other) zeros) (opened (meets newly_marked s other) (meets new_curve s other) (meets passed_over s other)) zeros (joined_with other s)
  opens m other s L u lt r g = done (sealed_is_taken_in E1 D1 E2 k m other L u lt s g zeros r)

  lawfully : {s t : State} {q : Call} {a : Answer} {lent : List ℕ} → Lawful s → Done s q a lent t → Lawful t
  lawfully {s} {t} {q} {a} {lent} L (done d) = stays_lawful E1 E2 s L q a lent t d

  cbc : Cbc ≡ Ecb → ⊥
  cbc h = let z : ◌≡◌ {A = ℕ} 0 1 = cc h in omega arith

  cfb : Cfb ≡ Ecb → ⊥
  cfb h = let z : ◌≡◌ {A = ℕ} 0 1 = cc h in omega arith

  ofb : Ofb ≡ Ecb → ⊥
  ofb h = let z : ◌≡◌ {A = ℕ} 0 1 = cc h in omega arith

  -- ---- what the registers hold, parcel by parcel

  published_lawful : Lawful upper_published
  published_lawful = lawfully (lawful_new (new_state 11) refl (omega arith)) publishing

  published_long : length (parcel_of E1 E2 Cbc upper_published) ≡ 56
  unfolding entries_up_to
  published_long = refl

  sealing_published : Done upper_published (seal Cbc zeros) (sealed (length (parcel_of E1 E2 Cbc upper_published)) 1 (start_of E1 11 1)) (parcel_of E1 E2 Cbc upper_published ++ drop (length (parcel_of E1 E2 Cbc upper_published)) zeros) (raised upper_published)
  sealing_published = sealing Cbc upper_published cbc (omega arith) (omega (arith, published_long))

  middle_hears : Done (new_state 12) (open_parcel (parcel_of E1 E2 Cbc upper_published) zeros) (opened 0 1 0) zeros middle_hearing
  unfolding tally
  middle_hears =
      opens Cbc upper_published (new_state 12) published_lawful cbc (omega arith) (omega (arith, published_long))
      (agree (new_state 12) upper_published published_five (λ c d h _. never None c refl h) 1 0 refl refl (omega arith))

  withdrawn_lawful : Lawful upper_withdrawn
  withdrawn_lawful = lawfully (lawfully published_lawful sealing_published) withdrawing

  withdrawn_long : length (parcel_of E1 E2 Cfb upper_withdrawn) ≡ 32
  unfolding entries_up_to
  withdrawn_long = refl

  middle_learns : Done middle_hearing (open_parcel (parcel_of E1 E2 Cfb upper_withdrawn) zeros) (opened 1 0 0) zeros middle_knowing
  unfolding tally
  middle_learns =
      opens Cfb upper_withdrawn middle_hearing withdrawn_lawful cfb (omega arith) (omega (arith, withdrawn_long))
      (agree middle_hearing upper_withdrawn withdrawn_five (λ c d _ h. marked_curve d h) 0 0 refl refl (omega arith))

  middle_opens_late : Done middle_knowing (open_parcel (parcel_of E1 E2 Cbc upper_published) zeros) (opened 0 0 1) zeros middle_late
  unfolding tally
  middle_opens_late =
      opens Cbc upper_published middle_knowing published_lawful cbc (omega arith) (omega (arith, published_long))
      (agree middle_knowing upper_published published_five (λ c d h _. marked_curve c h) 0 0 refl refl (omega arith))

  lower_hears : Done (new_state 13) (open_parcel (parcel_of E1 E2 Cbc upper_published) zeros) (opened 0 1 0) zeros lower_hearing
  unfolding tally
  lower_hears =
      opens Cbc upper_published (new_state 13) published_lawful cbc (omega arith) (omega (arith, published_long))
      (agree (new_state 13) upper_published published_five (λ c d h _. never None c refl h) 1 0 refl refl (omega arith))

  late_lawful : Lawful middle_late
  late_lawful = lawfully (lawfully (lawfully (lawful_new (new_state 12) refl (omega arith)) middle_hears) middle_learns) middle_opens_late

  late_long : length (parcel_of E1 E2 Ofb middle_late) ≡ 32
  unfolding entries_up_to
  late_long = refl

  lower_learns : Done lower_hearing (open_parcel (parcel_of E1 E2 Ofb middle_late) zeros) (opened 1 0 0) zeros lower_knowing
  unfolding tally
  lower_learns =
      opens Ofb middle_late lower_hearing late_lawful ofb (omega arith) (omega (arith, late_long))
      (agree lower_hearing middle_late late_five (λ c d _ h. marked_curve d h) 0 0 refl refl (omega arith))

  -- ---- one call after the other

  -- after these calls the three registers stand so
  record Stands (log : List Event) (a b c : State) : Type 0 where
    states : ℕ → ℕ → State
    run : Run E1 E2 3 log states
    upper : states (length log) 0 ≡ a
    middle : states (length log) 1 ≡ b
    lower : states (length log) 2 ≡ c

  start : Stands [] (new_state 11) (new_state 12) (new_state 13)
  start =
      record {
        states = λ _ i. new_state (11 + i);
        run = record {
          starts = record { new = λ i h. refl; stations = λ i h. omega arith; distinct = λ i j h m e. omega arith };
          steps = λ p e h. absurd (let z : ◌≡◌ {A = ℕ} 0 1 = cc h in omega arith);
        };
        upper = refl;
        middle = refl;
        lower = refl;
      }

  longer : (log : List Event) (e : Event) → length (log ++ (e ∷ [])) ≡ suc (length log)
  longer log e = length-append log (e ∷ []) ∙ omega arith

  upstream : {log : List Event} {a b c t : State} {q : Call} {x : Answer} {lent : List ℕ} → Stands log a b c → Done a q x lent t → Stands (log ++ (event 0 q x lent ∷ [])) t b c
  upstream {log} {a} {b} {c} {t} {q} {x} {lent} s (done d) =
      let g = every_call E1 D1 E2 D2 k l a q x lent t d 3 log s.states 0 s.run (omega arith) s.upper in
      let n = longer log (event 0 q x lent) in
      record {
        states = g.history;
        run = g.run;
        upper = ap (λ p. g.history p 0) n ∙ g.here;
        middle = ap (λ p. g.history p 1) n ∙ g.others 1 (omega arith) ∙ s.middle;
        lower = ap (λ p. g.history p 2) n ∙ g.others 2 (omega arith) ∙ s.lower;
      }

  midway : {log : List Event} {a b c t : State} {q : Call} {x : Answer} {lent : List ℕ} → Stands log a b c → Done b q x lent t → Stands (log ++ (event 1 q x lent ∷ [])) a t c
  midway {log} {a} {b} {c} {t} {q} {x} {lent} s (done d) =
      let g = every_call E1 D1 E2 D2 k l b q x lent t d 3 log s.states 1 s.run (omega arith) s.middle in
      let n = longer log (event 1 q x lent) in
      record {
        states = g.history;
        run = g.run;
        upper = ap (λ p. g.history p 0) n ∙ g.others 0 (omega arith) ∙ s.upper;
        middle = ap (λ p. g.history p 1) n ∙ g.here;
        lower = ap (λ p. g.history p 2) n ∙ g.others 2 (omega arith) ∙ s.lower;
      }

  downstream : {log : List Event} {a b c t : State} {q : Call} {x : Answer} {lent : List ℕ} → Stands log a b c → Done c q x lent t → Stands (log ++ (event 2 q x lent ∷ [])) a b t
  downstream {log} {a} {b} {c} {t} {q} {x} {lent} s (done d) =
      let g = every_call E1 D1 E2 D2 k l c q x lent t d 3 log s.states 2 s.run (omega arith) s.lower in
      let n = longer log (event 2 q x lent) in
      record {
        states = g.history;
        run = g.run;
        upper = ap (λ p. g.history p 0) n ∙ g.others 0 (omega arith) ∙ s.upper;
        middle = ap (λ p. g.history p 1) n ∙ g.others 1 (omega arith) ∙ s.middle;
        lower = ap (λ p. g.history p 2) n ∙ g.here;
      }

  spring : Stands (take 4 (season E1 E2)) (raised upper_published) middle_hearing (new_state 13)
  spring = midway (midway (upstream (upstream start publishing) sealing_published) middle_hears) (converting middle_hearing refl)

  summer : Stands (take 9 (season E1 E2)) (raised upper_withdrawn) middle_late (new_state 13)
  summer =
      midway
      (midway
      (midway (upstream (upstream spring withdrawing) (sealing Cfb upper_withdrawn cfb (omega arith) (omega (arith, withdrawn_long)))) middle_learns)
      (turned_away middle_knowing refl))
      middle_opens_late

  autumn : Stands (season E1 E2) (raised upper_withdrawn) (raised middle_late) lower_knowing
  autumn =
      downstream
      (downstream
      (downstream
      (midway (downstream (downstream summer lower_hears) (converting lower_hearing refl)) (sealing Ofb middle_late ofb (omega arith) (omega (arith, late_long))))
      lower_learns)
      (turned_away lower_knowing refl))
      (not_again lower_knowing refl)

  -- ---- who knows

  -- the bytes at the front of what was lent are the parcel
  front : (xs ys : List ℕ) → xs ≡ take (length xs) (xs ++ ys)
  front xs ys = sym (take-append-le (length xs) xs ys (le_refl (length xs)) ∙ take_all (length xs) xs (le_refl (length xs)))

  sealed_at : (p place who : ℕ) (m : Mode) (s : State) → place < p → At (season E1 E2) place (seals E1 E2 who m s) → SealedBefore (season E1 E2) p (parcel_of E1 E2 m s)
  sealed_at p place who m s h at =
      record {
        place = place;
        event = seals E1 E2 who m s;
        earlier = h;
        there = at;
        sealing = record {
          mode = m;
          room = zeros;
          size = length (parcel_of E1 E2 m s);
          serial = s.serial + 1;
          start = start_of E1 s.station (s.serial + 1);
          called = refl;
          answered = refl;
        };
        wrote = front (parcel_of E1 E2 m s) (drop (length (parcel_of E1 E2 m s)) zeros);
      }

  opened_at : (who : ℕ) (bytes : List ℕ) (x y z : ℕ) → AcceptedOpen (event who (open_parcel bytes zeros) (opened x y z) zeros) bytes
  opened_at who bytes x y z = record { work = zeros; marked = x; placed = y; passed = z; called = inl refl; answered = refl }

  upper_knows : (p : ℕ) → 4 < p → Knows (season E1 E2) p 0 5
  upper_knows p h = by_withdraw 4 (event 0 (withdraw 5) accepted []) h refl refl refl refl

  middle_knows : (p : ℕ) → 6 < p → Knows (season E1 E2) p 1 5
  unfolding sealed_at
  middle_knows p h =
      by_open 6 (event 1 (open_parcel (parcel_of E1 E2 Cfb upper_withdrawn) zeros) (opened 1 0 0) zeros) (parcel_of E1 E2 Cfb upper_withdrawn) h refl refl
      (opened_at 1 (parcel_of E1 E2 Cfb upper_withdrawn) 1 0 0) (sealed_at 6 5 0 Cfb upper_withdrawn (omega arith) refl) (upper_knows 5 (omega arith))

  lower_knows : (p : ℕ) → 12 < p → Knows (season E1 E2) p 2 5
  unfolding sealed_at
  lower_knows p h =
      by_open 12 (event 2 (open_parcel (parcel_of E1 E2 Ofb middle_late) zeros) (opened 1 0 0) zeros) (parcel_of E1 E2 Ofb middle_late) h refl refl
      (opened_at 2 (parcel_of E1 E2 Ofb middle_late) 1 0 0) (sealed_at 12 11 1 Ofb middle_late (omega arith) refl) (middle_knows 11 (omega arith))

  whole : Season E1 E2
  whole =
      record {
        states = autumn.states;
        run = autumn.run;
        upper_knows = upper_knows 15 (omega arith);
        middle_knows = middle_knows 15 (omega arith);
        lower_knows = lower_knows 15 (omega arith);
      }

pub season_is_a_run : SeasonIsARun
season_is_a_run E1 D1 E2 D2 k l = whole E1 D1 E2 D2 k l
