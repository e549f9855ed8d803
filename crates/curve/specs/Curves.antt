-- Rating curves: which are lawful, and the flow at a stage.
--   Point               a stage in millimetres and the flow there in litres a second
--   Curve               the points of a curve, in order
--   point c k           the point at place k, the first at 0
--   pair ss qs k        the stage and the flow at place k of two lists
--   points ss qs        the points of a list of stages and a list of flows, one by one
--   InRange s q         a stage and a flow that a point may have
--   LawfulCurve c       2 to 16 points in range, stages that rise strictly, flows that never fall
--   Makes ss qs         the lists are of equal length and make a lawful curve
--   above a s           how far the stage s lies above the stage a
--   flow_between a b s  the flow at s on the line from a to b, rounded down
--   Between c k s       s lies from the point at k to its neighbour, ends counted in
--   FlowAt c s q        q is the flow at the stage s
--   Covered c s         s is neither below the first point nor above the last
use Rattle.std.specs.Prelude.{◌≡◌, ℕ, ◌+◌, ◌-◌, ◌*◌, ◌/◌, ◌<◌, ◌≤◌, List, [], ◌∷◌, length, ℤ, pos, negsuc, ◌-ℤ◌, ◌≤ℤ◌, ◌<ℤ◌, slice_index, slice_index_or, unsigned_abs}

pub record Point : Type 0 where
  pub stage : ℤ
  pub flow : ℕ

abbrev pub Curve : Type 0
Curve = List Point

abbrev pub no_point : Point
no_point = record { stage = pos 0; flow = 0 }

abbrev pub point : Curve → ℕ → Point
point c k = slice_index_or c k no_point

abbrev pub pair : List ℤ → List ℕ → ℕ → Point
pair ss qs k = record { stage = slice_index_or ss k (pos 0); flow = slice_index qs k }

abbrev pub points : List ℤ → List ℕ → Curve
points [] qs = []
points (s ∷ ss) [] = []
points (s ∷ ss) (q ∷ qs) = record { stage = s; flow = q } ∷ points ss qs

-- −20,000 to 60,000 mm, where negsuc n is −(n + 1), and 0 to 2,000,000,000 l/s
abbrev pub InRange : ℤ → ℕ → Type 0
InRange s q = (negsuc 19999 ≤ℤ s) × (s ≤ℤ pos 60000) × (q ≤ 2000000000)

pub record LawfulCurve (c : Curve) : Type 0 where
  pub least : 2 ≤ length c
  pub most : length c ≤ 16
  pub in_range : (k : ℕ) → k < length c → InRange (point c k).stage (point c k).flow
  pub rises : (k : ℕ) → k + 1 < length c → (point c k).stage <ℤ (point c (k + 1)).stage
  pub never_falls : (k : ℕ) → k + 1 < length c → (point c k).flow ≤ (point c (k + 1)).flow

abbrev pub Makes : List ℤ → List ℕ → Type 0
Makes ss qs = (length ss ≡ length qs) × LawfulCurve (points ss qs)

unfoldable pub above : ℤ → ℤ → ℕ
above a s = unsigned_abs (s -ℤ a)

-- q1 + (q2 − q1) × (s − s1) / (s2 − s1), where / rounds down
abbrev pub flow_between : Point → Point → ℤ → ℕ
flow_between a b s = a.flow + (b.flow - a.flow) * above a.stage s / above a.stage b.stage

pub record Between (c : Curve) (k : ℕ) (s : ℤ) : Type 0 where
  pub neighbour : k + 1 < length c
  pub from : (point c k).stage ≤ℤ s
  pub to : s ≤ℤ (point c (k + 1)).stage

abbrev pub FlowAt : Curve → ℤ → ℕ → Type 0
FlowAt c s q = (k : ℕ) × Between c k s × (q ≡ flow_between (point c k) (point c (k + 1)) s)

abbrev pub Covered : Curve → ℤ → Type 0
Covered c s = ((point c 0).stage ≤ℤ s) × (s ≤ℤ (point c (length c - 1)).stage)
