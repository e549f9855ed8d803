-- What is promised of every lawful curve.
--   AnyPair       any neighbouring pair that holds a stage gives the same flow
--   FlowsWithin   a stage has a flow exactly where the curve covers it
--   FlowsBetween  the flow between two points is neither below the first one's nor above the second one's
use Rattle.std.specs.Prelude.{◌≡◌, ℕ, ◌+◌, ◌≤◌, ℤ}
use Rattle.curve.specs.Curves.{Curve, point, LawfulCurve, flow_between, Between, FlowAt, Covered}

abbrev pub AnyPair : Type 0
AnyPair = (c : Curve) → LawfulCurve c → (j k : ℕ) (s : ℤ) → Between c j s → Between c k s
    → flow_between (point c j) (point c (j + 1)) s ≡ flow_between (point c k) (point c (k + 1)) s

abbrev pub FlowsWithin : Type 0
FlowsWithin = (c : Curve) → LawfulCurve c → (s : ℤ) → (Covered c s → (q : ℕ) × FlowAt c s q) × ((q : ℕ) → FlowAt c s q → Covered c s)

abbrev pub FlowsBetween : Type 0
FlowsBetween = (c : Curve) → LawfulCurve c → (k : ℕ) (s : ℤ) → Between c k s
    → ((point c k).flow ≤ flow_between (point c k) (point c (k + 1)) s) × (flow_between (point c k) (point c (k + 1)) s ≤ (point c (k + 1)).flow)

pub record CurveLaws : Type 0 where
  pub any_pair : AnyPair
  pub flows_within : FlowsWithin
  pub flows_between : FlowsBetween
