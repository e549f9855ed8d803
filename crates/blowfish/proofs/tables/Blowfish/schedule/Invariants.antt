use Rattle.std.proofs.Common.{◌≡◌}
use Rattle.cipher.specs.Rounds.{rounds}
use Rattle.blowfish.specs.Schedule.{filled_box}
use Rattle.blowfish.proofs.tables.Blowfish.schedule.Given as goal

abbrev pub invariant-loop-k : goal.invariant-loop-k
invariant-loop-k l =
    (l.self ≡ (rounds filled_box l.k (l.initial.self, l.initial.last)).0)
    × (l.last ≡ (rounds filled_box l.k (l.initial.self, l.initial.last)).1)
