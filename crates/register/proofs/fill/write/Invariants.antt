use Rattle.std.proofs.Common.{◌≡◌, ℕ, ◌<◌, get_or, drop, pos}
use Rattle.curve.specs.Curves.{points, FlowAt}
use Rattle.register.proofs.fill.write.Given as goal

-- the flows before i are written, and those from i on are as they were
abbrev pub invariant-loop-i : goal.invariant-loop-i
invariant-loop-i l = ((k : ℕ) → k < l.i → FlowAt (points l.curve.stages.now l.curve.flows.now) (get_or l.stages k (pos 0)) (get_or l.flows k 0))
    × (drop l.i l.flows ≡ drop l.i l.initial.flows)
