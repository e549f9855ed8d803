-- The first pair of neighbours that holds a stage, and the flow there.
use Rattle.std.proofs.Common.{◌≡◌, ℕ, ◌+◌, ◌<◌, List, length, ℤ, ◌≤ℤ◌, Some, None, Option, MatchOption, sym, ◌∙◌, subst, ap₂, arith}
use Rattle.curve.specs.Answers.{Holds, FirstFlow, Found, Lawfully}
use Rattle.curve.specs.Curves.{Curve, point, pair, points, flow_between, Between, FlowAt}
use Rattle.curve.proofs.Neighbours.{any_pair, flow_there, flow_covered}
use Rattle.curve.proofs.Points.{point_at, points_enough, length-points, length_points_flows}

pub record Answered (c : Curve) (s : ℤ) (r : Option ℕ) : Type 0 where
  pub first : Found c s r
  pub lawful : Lawfully c s r

-- the flow by the first pair is the flow by a pair
pub first_is_flow : (c : Curve) (s : ℤ) (q : ℕ) → FirstFlow c s q → FlowAt c s q
first_is_flow c s q f = (f.place, f.holds, f.value)

module _ (ss : List ℤ) (qs : List ℕ) (s : ℤ) where
  -- the neighbours from place k hold the stage
  abbrev pub HoldsFrom : ℕ → Type 0
  HoldsFrom k = Holds (pair ss qs k).stage (pair ss qs (k + 1)).stage s

  module _ (k : ℕ) (h : k + 1 < length ss) (l : k + 1 < length qs) where
    low : point (points ss qs) k ≡ pair ss qs k
    low = point_at ss qs k (omega arith) (omega arith)

    high : point (points ss qs) (k + 1) ≡ pair ss qs (k + 1)
    high = point_at ss qs (k + 1) h l

    holds_between : HoldsFrom k → Between (points ss qs) k s
    holds_between (a, b) =
        record {
          neighbour = omega (arith, points_enough ss qs (k + 2) (omega arith) (omega arith));
          from = subst (λ p. p.stage ≤ℤ s) (sym low) a;
          to = subst (λ p. s ≤ℤ p.stage) (sym high) b;
        }

    flow_is : (q : ℕ) → q ≡ flow_between (pair ss qs k) (pair ss qs (k + 1)) s → q ≡ flow_between (point (points ss qs) k) (point (points ss qs) (k + 1)) s
    flow_is q e = e ∙ sym (ap₂ (λ x y. flow_between x y s) low high)

  between_holds : (k : ℕ) → Between (points ss qs) k s → HoldsFrom k
  between_holds k b =
      let h : k + 1 < length ss = omega (arith, b.neighbour, length-points ss qs) in
      let l : k + 1 < length qs = omega (arith, b.neighbour, length_points_flows ss qs) in
      (subst (λ p. p.stage ≤ℤ s) (low k h l) b.from, subst (λ p. s ≤ℤ p.stage) (high k h l) b.to)

  abbrev pub First : ℕ → Type 0
  First q = (k : ℕ) × (k + 1 < length ss) × (k + 1 < length qs) × (HoldsFrom k × (q ≡ flow_between (pair ss qs k) (pair ss qs (k + 1)) s)) × ((j : ℕ) → j < k → HoldsFrom j → ⊥)

  pub answered : (r : Option ℕ) → MatchOption r ((k : ℕ) → k + 1 < length ss → k + 1 < length qs → HoldsFrom k → ⊥) First → Answered (points ss qs) s r
  answered None none =
      let no : (k : ℕ) → Between (points ss qs) k s → ⊥ = λ k b. none k (omega (arith, b.neighbour, length-points ss qs)) (omega (arith, b.neighbour, length_points_flows ss qs)) (between_holds k b) in
      record { first = no; lawful = λ L c. (let (q, (k, b, e)) = flow_there (points ss qs) L s c in no k b) }
  answered (Some q) (k, h, l, (at, e), before) =
      let b = holds_between k h l at in
      let v = flow_is k h l q e in
      let f : FirstFlow (points ss qs) s q = record { place = k; holds = b; first = λ j m d. before j m (between_holds j d); value = v } in
      record {
        first = f;
        lawful = λ L. (flow_covered (points ss qs) L s q (first_is_flow (points ss qs) s q f), λ m d. v ∙ any_pair (points ss qs) L k m s b d);
      }
