use Rattle.std.proofs.Common.{◌≡◌, ℕ, ◌<◌}
use Rattle.xtea.specs.Lanes.{in_lane}
use Rattle.xtea.specs.Xtea.{cycles}
use Rattle.xtea.proofs.Xtea.cycles.Given as goal

abbrev pub invariant-loop-i : goal.invariant-loop-i
invariant-loop-i g l =
    (k : ℕ) → k < g.W.Word.lanes
    → in_lane g.W.Word.lane l.halves k
    ≡ cycles l.self.key l.i (in_lane g.W.Word.lane l.initial.halves k)
