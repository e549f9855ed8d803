-- The line between two neighbouring points.
use Rattle.std.proofs.Common.{◌≡◌, ℕ, ◌-◌, ◌*◌, ◌/◌, ◌<◌, ◌≤◌, ℤ, ◌≤ℤ◌, ◌<ℤ◌, mul_comm, mul-le-mul_left, mul-zero, mul-div_cancel, arith}
use native.Mathlib.Nat.{div-le_of_le-mul, zero-div}
use Rattle.std.proofs.lemmas.Int.{ints}
use Rattle.curve.specs.Curves.{Point, above, flow_between}

pub above_le : (a s b : ℤ) → a ≤ℤ s → s ≤ℤ b → above a s ≤ above a b
unfolding above
above_le a s b h k = omega (arith, ints)

pub above_pos : (a b : ℤ) → a <ℤ b → 0 < above a b
unfolding above
above_pos a b h = omega (arith, ints)

above_self : (a : ℤ) → above a a ≡ 0
unfolding above
above_self a = omega (arith, ints)

-- a part of x, in the ratio of r to s, is at most x
pub share_le : (x r s : ℕ) → r ≤ s → x * r / s ≤ x
share_le x r s h = div-le_of_le-mul s (let k = mul-le-mul_left x h in let e = mul_comm x s in omega arith)

pub at_start : (a b : Point) → flow_between a b a.stage ≡ a.flow
at_start a b = rw (above_self a.stage, mul-zero (b.flow - a.flow), zero-div (above a.stage b.stage)) (omega arith)

pub at_end : (a b : Point) → a.stage <ℤ b.stage → a.flow ≤ b.flow → flow_between a b b.stage ≡ b.flow
at_end a b r g = let e = mul-div_cancel (b.flow - a.flow) (above_pos a.stage b.stage r) in omega (arith, e, g)

pub between_flows : (a b : Point) (s : ℤ) → a.stage ≤ℤ s → s ≤ℤ b.stage → a.flow ≤ b.flow
    → (a.flow ≤ flow_between a b s) × (flow_between a b s ≤ b.flow)
between_flows a b s h k g =
    let u = share_le (b.flow - a.flow) (above a.stage s) (above a.stage b.stage) (above_le a.stage s b.stage h k) in
    (omega arith, omega (arith, u, g))
