use Rattle.std.proofs.Common.{◌≡◌, ◌*◌, length}
use Rattle.cipher.specs.Rounds.{rounds}
use Rattle.blowfish.specs.Schedule.{mix_word}
use Rattle.blowfish.proofs.tables.Blowfish.mix.Given as goal

abbrev pub invariant-loop-i : goal.invariant-loop-i
invariant-loop-i l = (l.pair-items ≡ rounds (mix_word l.key) (2 * l.i) l.initial.pair-items) × (length l.pair-items ≡ 9)
