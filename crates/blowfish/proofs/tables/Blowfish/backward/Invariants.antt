use Rattle.std.proofs.Common.{◌≡◌, ◌≤◌, map, length, take}
use Rattle.cipher.specs.Rounds.{unrounds}
use Rattle.blowfish.specs.declared.tables.TheConstants.{PAIRS}
use Rattle.blowfish.specs.Blowfish.{pair_back, deciphering}
use Rattle.blowfish.proofs.tables.Blowfish.backward.Given as goal

abbrev pub invariant-loop-odd : goal.invariant-loop-odd
invariant-loop-odd g l =
    (l.odd-iterator.iter.rest.now ≡ take (length l.odd-iterator.iter.rest.now) l.self.p)
    × (length l.odd-iterator.iter.rest.now ≤ PAIRS)
    × (length l.blocks ≡ length l.fn.blocks)
    × (map (unrounds (pair_back l.self) (length l.odd-iterator.iter.rest.now)) l.blocks ≡ map (deciphering l.self PAIRS) l.fn.blocks)
