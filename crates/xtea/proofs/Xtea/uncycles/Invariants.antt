use Rattle.std.proofs.Common.{◌≡◌, ℕ, ◌<◌}
use Rattle.xtea.specs.Lanes.{in_lane}
use Rattle.xtea.specs.Xtea.{uncycles}
use Rattle.xtea.proofs.Xtea.uncycles.Given as goal

-- what is left to undo gives what undoing all gave at first
abbrev pub invariant-loop-i : goal.invariant-loop-i
invariant-loop-i g l =
    (k : ℕ) → k < g.W.Word.lanes
    → uncycles l.self.key l.i (in_lane g.W.Word.lane l.halves k)
    ≡ uncycles l.self.key 32 (in_lane g.W.Word.lane l.initial.halves k)
