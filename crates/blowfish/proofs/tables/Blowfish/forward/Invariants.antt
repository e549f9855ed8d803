use Rattle.std.proofs.Common.{◌≡◌, map}
use Rattle.blowfish.proofs.Turns.{gone}
use Rattle.blowfish.proofs.tables.Blowfish.forward.Given as goal

abbrev pub invariant-loop-odd : goal.invariant-loop-odd
invariant-loop-odd g l = l.blocks ≡ map (gone l.self l.odd-index) l.fn.blocks
