use Rattle.std.proofs.Common.{◌≡◌}
use Rattle.cipher.specs.Rounds.{rounds}
use Rattle.blowfish.specs.Schedule.{step_p, zero_block}
use Rattle.blowfish.proofs.tables.Blowfish.fill_p.Given as goal

abbrev pub invariant-loop-i : goal.invariant-loop-i
invariant-loop-i l =
    (l.self ≡ (rounds step_p l.i (l.initial.self, zero_block)).0) × (l.last ≡ (rounds step_p l.i (l.initial.self, zero_block)).1)
