-- Converting stage by stage.
use Rattle.std.proofs.Common.{◌≡◌, ℕ, ◌-◌, List, length, get_or, ℤ, pos, ◌≤ℤ◌, Some, None, Option, refl, sym, ap, ◌∙◌, subst, arith}
use Rattle.std.specs.Prelude.{IsSome}
use Rattle.curve.specs.Answers.{FlowOf}
use Rattle.curve.specs.Curves.{Curve, point, points, LawfulCurve, Makes, FlowAt, Covered}
use Rattle.curve.proofs.Neighbours.{flow_there}
use Rattle.curve.proofs.Points.{point_at, enough, makes_size}
use Rattle.rules.specs.Calls.{AllCovered}
use Rattle.register.specs.Filling.{Within}

module _ (ss : List ℤ) (qs : List ℕ) (m : Makes ss qs) where
  first_stage : (point (points ss qs) 0).stage ≡ get_or ss 0 (pos 0)
  first_stage = let s = makes_size ss qs m in ap (λ p. p.stage) (point_at ss qs 0 (omega arith) (omega arith))

  last_stage : (point (points ss qs) (length (points ss qs) - 1)).stage ≡ get_or ss (length ss - 1) (pos 0)
  last_stage =
      let s = makes_size ss qs m in
      let n = enough ss qs m.0 in
      ap (λ k. (point (points ss qs) (k - 1)).stage) n ∙ ap (λ p. p.stage) (point_at ss qs (length ss - 1) (omega arith) (omega arith))

  pub within_covered : (st : List ℤ) → Within ss st → AllCovered (points ss qs) st
  within_covered st w k h =
      (subst (λ x. x ≤ℤ get_or st k (pos 0)) (sym first_stage) (w k h).0, subst (λ x. get_or st k (pos 0) ≤ℤ x) (sym last_stage) (w k h).1)

  pub covered_within : (st : List ℤ) → AllCovered (points ss qs) st → Within ss st
  covered_within st c k h =
      (subst (λ x. x ≤ℤ get_or st k (pos 0)) first_stage (c k h).0, subst (λ x. get_or st k (pos 0) ≤ℤ x) last_stage (c k h).1)

-- of a stage that a curve covers there is a flow, and what is answered is it
pub some_flow : (c : Curve) (s : ℤ) (r : Option ℕ) → FlowOf c s r → Covered c s → IsSome r
some_flow c s None f h = absurd (f h)
some_flow c s (Some q) f h = refl

pub answered_flow : (c : Curve) → LawfulCurve c → (s : ℤ) (r : Option ℕ) (q : ℕ) → FlowOf c s r → r ≡ Some q → FlowAt c s q
answered_flow c L s r q f e =
    let g = subst (FlowOf c s) e f in
    let (p, (k, b, v)) = flow_there c L s g.0 in
    (k, b, g.1 k b)
