use Rattle.std.proofs.Common.{◌≡◌, map, take}
use Rattle.cipher.specs.Bytes.{block_of}
use Rattle.modes.specs.declared.mode.Mode.TheVariants.{Cbc}
use Rattle.modes.specs.Formulas.{forward, after}
use Rattle.modes.specs.Cmac.{zeros}
use Rattle.modes.proofs.cmac.chained.Given as goal

abbrev pub invariant-loop-bytes : goal.invariant-loop-bytes
invariant-loop-bytes g l =
    l.chain ≡ after (forward Cbc (g.C.BlockCipher.enc l.cipher)) zeros (map block_of (take l.bytes-index l.blocks))
