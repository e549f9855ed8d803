-- The points of two lists, place by place.
use Rattle.std.proofs.Common.{◌≡◌, ℕ, zero, suc, ◌+◌, ◌-◌, ◌<◌, ◌≤◌, List, [], ◌∷◌, length, ℤ, sym, refl, subst, subst₂, arith}
use native.Mathlib.Decide.{dec_lt}
use Rattle.curve.specs.Answers.{Step, StepAt}
use Rattle.curve.specs.Curves.{Point, point, pair, points, LawfulCurve, Makes, InRange}

pub length-points : (ss : List ℤ) (qs : List ℕ) → length (points ss qs) ≤ length ss
length-points [] qs = omega arith
length-points (s ∷ ss) [] = omega arith
length-points (s ∷ ss) (q ∷ qs) = omega (arith, length-points ss qs)

pub length_points_flows : (ss : List ℤ) (qs : List ℕ) → length (points ss qs) ≤ length qs
length_points_flows [] qs = omega arith
length_points_flows (s ∷ ss) [] = omega arith
length_points_flows (s ∷ ss) (q ∷ qs) = omega (arith, length_points_flows ss qs)

-- as many points as the shorter list has
pub points_enough : (ss : List ℤ) (qs : List ℕ) (n : ℕ) → n ≤ length ss → n ≤ length qs → n ≤ length (points ss qs)
points_enough ss qs zero h k = omega arith
points_enough [] qs (suc n) h k = absurd (omega arith)
points_enough (s ∷ ss) [] (suc n) h k = absurd (omega arith)
points_enough (s ∷ ss) (q ∷ qs) (suc n) h k = omega (arith, points_enough ss qs n (omega arith) (omega arith))

pub point_at : (ss : List ℤ) (qs : List ℕ) (k : ℕ) → k < length ss → k < length qs → point (points ss qs) k ≡ pair ss qs k
point_at [] qs k h l = absurd (omega arith)
point_at (s ∷ ss) [] k h l = absurd (omega arith)
point_at (s ∷ ss) (q ∷ qs) zero h l = refl
point_at (s ∷ ss) (q ∷ qs) (suc k) h l = point_at ss qs k (omega arith) (omega arith)

abbrev StepOf : Point → Point → Type 0
StepOf p q = Step p.stage p.flow q.stage q.flow

module _ (ss : List ℤ) (qs : List ℕ) (same : length ss ≡ length qs) where
  pub enough : length (points ss qs) ≡ length ss
  enough = omega (arith, length-points ss qs, points_enough ss qs (length ss) (omega arith) (omega arith))

  pub steps_of : LawfulCurve (points ss qs) → (k : ℕ) → k + 1 < length ss → StepAt ss qs k
  steps_of L k h =
      let n = enough in
      subst₂ StepOf (point_at ss qs k (omega arith) (omega arith)) (point_at ss qs (k + 1) h (omega arith)) (
        L.in_range k (omega arith),
        L.in_range (k + 1) (omega arith),
        L.rises k (omega arith),
        L.never_falls k (omega arith),
      )

  module _ (least : 2 ≤ length ss) (steps : (k : ℕ) → k + 1 < length ss → StepAt ss qs k) where
    step_at : (k : ℕ) → k + 1 < length ss → StepOf (point (points ss qs) k) (point (points ss qs) (k + 1))
    step_at k h = subst₂ StepOf (sym (point_at ss qs k (omega arith) (omega arith))) (sym (point_at ss qs (k + 1) h (omega arith))) (steps k h)

    -- a point is the first of a step, or the second of one
    each_in_range : (k : ℕ) → k < length ss → InRange (point (points ss qs) k).stage (point (points ss qs) k).flow
    each_in_range k h = go (dec_lt (k + 1) (length ss))
      where
        go : Dec (k + 1 < length ss) → InRange (point (points ss qs) k).stage (point (points ss qs) k).flow
        go (yes l) = (step_at k l).0
        go (no d) =
            let e : (k - 1) + 1 ≡ k = omega (arith, d) in
            subst (λ j. InRange (point (points ss qs) j).stage (point (points ss qs) j).flow) e (step_at (k - 1) (omega (arith, d))).1

    pub lawful_points : length ss ≤ 16 → LawfulCurve (points ss qs)
    lawful_points most =
        let n = enough in
        record {
          least = omega arith;
          most = omega arith;
          in_range = λ k h. each_in_range k (omega arith);
          rises = λ k h. (step_at k (omega arith)).2;
          never_falls = λ k h. (step_at k (omega arith)).3;
        }

-- what a lawful curve says of its lists
pub makes_size : (ss : List ℤ) (qs : List ℕ) → Makes ss qs → (length ss ≡ length qs) × (2 ≤ length ss) × (length ss ≤ 16)
makes_size ss qs (same, L) = let n = enough ss qs same in (same, omega (arith, L.least), omega (arith, L.most))
