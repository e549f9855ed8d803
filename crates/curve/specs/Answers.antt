-- What the calls on curves answer.
--   Step s q t r      the point (t, r) may follow the point (s, q) on a curve
--   StepAt ss qs k    so it is of the point at place k of two lists and the next one
--   Holds s t x       the stage x lies from the stage s to the stage t, ends counted in
--   FirstFlow c s q   q is the flow at s by the first pair of neighbours that holds s
--   Found c s r       r is that flow, or none where no pair holds s
--   FlowOf c s r      any pair gives r, and there is one exactly where the curve covers s
--   Lawfully c s r    the same, where the curve is lawful
use Rattle.std.specs.Prelude.{◌≡◌, ℕ, ◌+◌, ◌<◌, ◌≤◌, List, ℤ, pos, ◌≤ℤ◌, ◌<ℤ◌, Option, MatchOption, slice_index, slice_index_or}
use Rattle.curve.specs.Curves.{Curve, point, InRange, LawfulCurve, flow_between, Between, Covered}

abbrev pub Step : ℤ → ℕ → ℤ → ℕ → Type 0
Step s q t r = InRange s q × InRange t r × (s <ℤ t) × (q ≤ r)

abbrev pub StepAt : List ℤ → List ℕ → ℕ → Type 0
StepAt ss qs k = Step (slice_index_or ss k (pos 0)) (slice_index qs k) (slice_index_or ss (k + 1) (pos 0)) (slice_index qs (k + 1))

abbrev pub Holds : ℤ → ℤ → ℤ → Type 0
Holds s t x = (s ≤ℤ x) × (x ≤ℤ t)

pub record FirstFlow (c : Curve) (s : ℤ) (q : ℕ) : Type 0 where
  pub place : ℕ
  pub holds : Between c place s
  pub first : (j : ℕ) → j < place → Between c j s → ⊥
  pub value : q ≡ flow_between (point c place) (point c (place + 1)) s

abbrev pub Found : Curve → ℤ → Option ℕ → Type 0
Found c s r = MatchOption r ((k : ℕ) → Between c k s → ⊥) (λ q. FirstFlow c s q)

abbrev pub FlowOf : Curve → ℤ → Option ℕ → Type 0
FlowOf c s r = MatchOption r (Covered c s → ⊥) (λ q. Covered c s × ((k : ℕ) → Between c k s → q ≡ flow_between (point c k) (point c (k + 1)) s))

abbrev pub Lawfully : Curve → ℤ → Option ℕ → Type 0
Lawfully c s r = LawfulCurve c → FlowOf c s r
