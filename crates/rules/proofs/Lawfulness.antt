-- A call leaves a lawful register lawful.
use Rattle.std.proofs.Common.{◌≡◌, ℕ, ◌+◌, ◌≤◌, true, false, ◌⊎◌, List, Some, None, Option, sym, refl, ap, ◌∙◌, subst, inl, inr, arith}
use Rattle.cipher.specs.declared.block.Block.{Block}
use Rattle.curve.specs.Curves.{Curve, points, LawfulCurve}
use Rattle.rules.specs.Registers.{Number, Standing, State, is_curve, places_in_use, Lawful, new_state, put, in_force, withdrawn}
use Rattle.rules.specs.Bundles.{Entry, LawfulStanding, LawfulList, told}
use Rattle.rules.specs.Calls.{Call, Answer, joined, new_curve, staying, merged, TooMany}
use Rattle.rules.specs.Laws.{StaysLawful}
use Rattle.rules.proofs.Copies.{told_outside, told_lawful}
use Rattle.rules.proofs.Moves.{Moves, moves, put_cases, joined_from, stays, places, marks, raises, merges}
use Rattle.rules.proofs.Tallies.{true_false, tally_grows, tally_one, tally_sum, tally-none}

pub lawful_new : (s : State) → s ≡ new_state s.station → s.station ≤ 65535 → Lawful s
lawful_new s h l = subst Lawful (sym h) (record {
  station_fits = l;
  serial_fits = omega arith;
  outside = λ n o. refl;
  curves = λ n c e. absurd (let z : ◌≡◌ {A = ℕ} 0 1 = cc e in omega arith);
  places = omega (arith, tally-none 1024);
})

-- ---- one number is put

-- a curve that is put is one curve more at most
put-curves : (n : ℕ) (x : Standing) (s : State) → places_in_use (put n x s).standing ≤ places_in_use s.standing + 1
put-curves n x s = (tally_one (λ m. is_curve ((put n x s).standing m)) (λ m. is_curve (s.standing m)) n (λ m d. ap is_curve (apart m d)) 1024).0
  where
    apart : (m : ℕ) → (m ≡ n → ⊥) → (put n x s).standing m ≡ s.standing m
    apart m d = go (put_cases n x s (put n x s) refl m)
      where
        go : ((m ≡ n) × ((put n x s).standing m ≡ Some x)) ⊎ ((m ≡ n → ⊥) × ((put n x s).standing m ≡ s.standing m)) → (put n x s).standing m ≡ s.standing m
        go (inl (e, _)) = absurd (d e)
        go (inr (_, e)) = e

-- a mark that is put is no curve more
put_mark_curves : (n : ℕ) (s : State) → places_in_use (put n withdrawn s).standing ≤ places_in_use s.standing
put_mark_curves n s = tally_grows (λ m. is_curve ((put n withdrawn s).standing m)) (λ m. is_curve (s.standing m)) each 1024
  where
    each : (m : ℕ) → is_curve ((put n withdrawn s).standing m) ≡ true → is_curve (s.standing m) ≡ true
    each m h = go (put_cases n withdrawn s (put n withdrawn s) refl m)
      where
        go : ((m ≡ n) × ((put n withdrawn s).standing m ≡ Some withdrawn)) ⊎ ((m ≡ n → ⊥) × ((put n withdrawn s).standing m ≡ s.standing m)) → is_curve (s.standing m) ≡ true
        go (inl (_, e)) = absurd (true_false (is_curve ((put n withdrawn s).standing m)) h (ap is_curve e))
        go (inr (_, e)) = ap is_curve (sym e) ∙ h

lawful_put : (n : ℕ) (x : Standing) (s : State) → Lawful s → Number n → LawfulStanding x → places_in_use (put n x s).standing ≤ 32 → Lawful (put n x s)
lawful_put n x s L i l p = record {
  station_fits = L.station_fits;
  serial_fits = L.serial_fits;
  outside = λ m o. out m o (put_cases n x s (put n x s) refl m);
  curves = λ m c e. lawful m c e (put_cases n x s (put n x s) refl m);
  places = p;
}
  where
    out : (m : ℕ) → (Number m → ⊥) → ((m ≡ n) × ((put n x s).standing m ≡ Some x)) ⊎ ((m ≡ n → ⊥) × ((put n x s).standing m ≡ s.standing m)) → (put n x s).standing m ≡ None
    out m o (inl (e, _)) = absurd (o (subst Number (sym e) i))
    out m o (inr (_, e)) = e ∙ L.outside m o

    lawful : (m : ℕ) (c : Curve) → (put n x s).standing m ≡ Some (in_force c) → ((m ≡ n) × ((put n x s).standing m ≡ Some x)) ⊎ ((m ≡ n → ⊥) × ((put n x s).standing m ≡ s.standing m)) → LawfulCurve c
    lawful m c e (inl (_, f)) = let g : x ≡ in_force c = cc (e, f) in subst LawfulStanding g l
    lawful m c e (inr (_, f)) = L.curves m c (sym f ∙ e)

-- ---- all numbers are joined

-- a curve in force afterwards stayed or is new
stays_or_new : (o y : Option Standing) → is_curve (joined o y) ≡ true → (staying o y ≡ true) ⊎ (new_curve o y ≡ true)
stays_or_new None None h = absurd (true_false false h refl)
stays_or_new None (Some (in_force d)) h = inr refl
stays_or_new None (Some withdrawn) h = absurd (true_false false h refl)
stays_or_new (Some withdrawn) y h = absurd (true_false false h refl)
stays_or_new (Some (in_force c)) None h = inl refl
stays_or_new (Some (in_force c)) (Some (in_force d)) h = inl refl
stays_or_new (Some (in_force c)) (Some withdrawn) h = absurd (true_false false h refl)

pub was_there : (o y : Option Standing) → staying o y ≡ true → is_curve o ≡ true
was_there None y h = h
was_there (Some withdrawn) y h = h
was_there (Some (in_force c)) y h = refl

merged-curves : (s : State) (xs : List Entry) → places_in_use s.standing ≤ 32 → (TooMany s xs → ⊥) → places_in_use (merged xs s).standing ≤ 32
merged-curves s xs l f =
    let a = tally_sum (λ n. is_curve (joined (s.standing n) (told xs n))) (λ n. staying (s.standing n) (told xs n)) (λ n. new_curve (s.standing n) (told xs n)) (λ n. stays_or_new (s.standing n) (told xs n)) 1024 in
    let b = tally_grows (λ n. staying (s.standing n) (told xs n)) (λ n. is_curve (s.standing n)) (λ n. was_there (s.standing n) (told xs n)) 1024 in
    omega (arith, a, b, l, f)

lawful_merged : (s : State) (xs : List Entry) → Lawful s → LawfulList xs → (TooMany s xs → ⊥) → Lawful (merged xs s)
lawful_merged s xs L M f = record {
  station_fits = L.station_fits;
  serial_fits = L.serial_fits;
  outside = λ n o. (let a = L.outside n o in let b = told_outside xs M n o in rw (a, b));
  curves = λ n c e. by n c (joined_from (s.standing n) (told xs n) (in_force c) e);
  places = merged-curves s xs L.places f;
}
  where
    by : (n : ℕ) (c : Curve) → (s.standing n ≡ Some (in_force c)) ⊎ (told xs n ≡ Some (in_force c)) → LawfulCurve c
    by n c (inl e) = L.curves n c e
    by n c (inr e) = told_lawful xs M n c e

-- ---- every move

pub lawful_moved : (E1 E2 : Block → Block) (s : State) → Lawful s → (q : Call) (a : Answer) (lent : List ℕ) (t : State) → Moves E1 E2 s q a lent t → Lawful t
lawful_moved E1 E2 s L q a lent t (stays h _) = subst Lawful (sym h) L
lawful_moved E1 E2 s L q a lent t (places n st fl _ _ i _ m r h) =
    subst Lawful (sym h) (lawful_put n (in_force (points st fl)) s L i m.1 (omega (arith, r, put-curves n (in_force (points st fl)) s)))
lawful_moved E1 E2 s L q a lent t (marks n _ _ i h) =
    subst Lawful (sym h) (lawful_put n withdrawn s L i tt (omega (arith, L.places, put_mark_curves n s)))
lawful_moved E1 E2 s L q a lent t (raises _ _ _ _ f h) = subst Lawful (sym h) (record {
  station_fits = L.station_fits;
  serial_fits = omega (arith, L.serial_fits, f);
  outside = L.outside;
  curves = L.curves;
  places = L.places;
})
lawful_moved E1 E2 s L q a lent t (merges _ _ _ _ _ _ _ h) = subst Lawful (sym h.after) (lawful_merged s h.bundle.entries L h.bundle.lawful h.fits)

pub stays_lawful : StaysLawful
stays_lawful E1 E2 s L q a lent t h = lawful_moved E1 E2 s L q a lent t (moves E1 E2 s a lent t q h)
