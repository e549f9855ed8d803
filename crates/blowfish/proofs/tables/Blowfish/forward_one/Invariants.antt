use Rattle.std.proofs.Common.{◌≡◌, ◌*◌}
use Rattle.cipher.specs.Rounds.{rounds}
use Rattle.blowfish.proofs.Turns.{turned_at}
use Rattle.blowfish.proofs.tables.Blowfish.forward_one.Given as goal

abbrev pub invariant-loop-odd : goal.invariant-loop-odd
invariant-loop-odd l = l.x ≡ rounds (turned_at l.self) (2 * l.odd-index) l.initial.x
