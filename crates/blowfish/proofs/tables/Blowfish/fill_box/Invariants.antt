use Rattle.std.proofs.Common.{◌≡◌}
use Rattle.cipher.specs.Rounds.{rounds}
use Rattle.blowfish.specs.Schedule.{step_s}
use Rattle.blowfish.proofs.tables.Blowfish.fill_box.Given as goal

abbrev pub invariant-loop-i : goal.invariant-loop-i
invariant-loop-i l =
    (l.self ≡ (rounds (step_s l.k) l.i (l.initial.self, l.initial.last)).0)
    × (l.last ≡ (rounds (step_s l.k) l.i (l.initial.self, l.initial.last)).1)
