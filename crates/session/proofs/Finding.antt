-- Looking for a name.
use Rattle.std.proofs.Common.{◌≡◌, ℕ, zero, suc, ◌<◌, true, false, cond, List, [], ◌∷◌, map, length, get_or, vec_items, None, Some, Option, MatchOption, is_some, sym, refl, ap, ◌∙◌, arith}
use Rattle.std.specs.List.{AllWithin, HoldsAt}
use Rattle.std.specs.Option.{option_map}
use Rattle.std.specs.Str.{bytes_eq}
use Rattle.std.proofs.lemmas.Slice.Eq.{bytes_eq-Decides}
use Rattle.session.specs.declared.entry.Entry.{Entry}
use Rattle.session.specs.State.{Meaning, State, find, put, At}
use Rattle.session.specs.Views.{entry_of}

find_past : (n : List ℕ) (e : List ℕ × Meaning) (s : State) → bytes_eq e.0 n ≡ false → find n (e ∷ s) ≡ find n s
unfolding find
find_past n e s h = ap (λ b. cond b (Some e.1) (find n s)) h

put_past : (n : List ℕ) (m : Meaning) (e : List ℕ × Meaning) (s : State) → bytes_eq e.0 n ≡ false → put n m (e ∷ s) ≡ e ∷ put n m s
unfolding put
put_past n m e s h = ap (λ b. cond b ((n, m) ∷ s) (e ∷ put n m s)) h

here : (n : List ℕ) (e : List ℕ × Meaning) (s : State) → bytes_eq e.0 n ≡ true → At n (e ∷ s) 0
unfolding find put
here n e s h =
    record {
      within = omega arith;
      named = λ d. (bytes_eq-Decides e.0 n).0 h;
      found = λ d. ap (λ b. cond b (Some e.1) (find n s)) h;
      putting = λ m. ap (λ b. cond b ((n, m) ∷ s) (e ∷ put n m s)) h;
    }

past : (n : List ℕ) (e : List ℕ × Meaning) (s : State) (i : ℕ) → bytes_eq e.0 n ≡ false → At n s i → At n (e ∷ s) (suc i)
past n e s i h a =
    record {
      within = omega (arith, a.within);
      named = λ d. a.named d;
      found = λ d. find_past n e s h ∙ a.found d;
      putting = λ m. put_past n m e s h ∙ ap (λ t. e ∷ t) (a.putting m);
    }

-- the first place at which the name stands
at_first : (n : List ℕ) (es : List Entry) (i : ℕ) → i < length es → ((d : Entry) → bytes_eq (vec_items (get_or es i d).name) n ≡ true)
    → ((k : ℕ) (d : Entry) → k < i → bytes_eq (vec_items (get_or es k d).name) n ≡ false) → At n (map entry_of es) i
at_first n [] i h same other = absurd (omega arith)
at_first n (e ∷ es) zero h same other = here n (entry_of e) (map entry_of es) (same e)
at_first n (e ∷ es) (suc i) h same other =
    past n (entry_of e) (map entry_of es) i (other 0 e (omega arith))
    (at_first n es i (omega arith) (λ d. same d) (λ k d g. other (suc k) d (omega arith)))

nowhere : (n : List ℕ) (es : List Entry) → ((k : ℕ) (d : Entry) → k < length es → bytes_eq (vec_items (get_or es k d).name) n ≡ false)
    → find n (map entry_of es) ≡ None
unfolding find
nowhere n [] other = refl
nowhere n (e ∷ es) other =
    find_past n (entry_of e) (map entry_of es) (other 0 e (omega arith)) ∙ nowhere n es (λ k d g. other (suc k) d (omega arith))

abbrev pub Named : List ℕ → Entry → Type 0
Named n e = bytes_eq (vec_items e.name) n ≡ true

abbrev pub Other : List ℕ → Entry → Type 0
Other n e = bytes_eq (vec_items e.name) n ≡ false

pub at_position : (n : List ℕ) (es : List Entry) (r : Option ℕ)
    → MatchOption r (AllWithin (Other n) es 0 (length es)) (λ i. (i < length es) × HoldsAt (Named n) es i × AllWithin (Other n) es 0 i)
    → MatchOption r (find n (map entry_of es) ≡ None) (At n (map entry_of es))
at_position n es None h = nowhere n es (λ k d g. h k d (omega arith) g)
at_position n es (Some i) h = at_first n es i h.0 h.1 (λ k d g. h.2 k d (omega arith) g)

pub found_some : {A B : Type 0} (f : A → B) (o : Option A) (r : Option B) → option_map f o ≡ r → is_some o ≡ true → (x : B) × (r ≡ Some x)
found_some f None r e h = cc
found_some f (Some x) r e h = (f x, sym e)

pub found_none : {A B : Type 0} (f : A → B) (o : Option A) (r : Option B) → option_map f o ≡ r → is_some o ≡ false → r ≡ None
found_none f None r e h = sym e
found_none f (Some x) r e h = cc
