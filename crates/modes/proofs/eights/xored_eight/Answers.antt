use Rattle.std.proofs.Common.{rules}
use Rattle.modes.specs.Cmac.{zeros}
use Rattle.cipher.specs.Blocks.{xor}
use Rattle.modes.proofs.SideBySide.{pairwise_is}
use Rattle.modes.proofs.eights.xored_eight.Goals as goal

pub returns : goal.returns
returns c =
    pairwise_is xor 8 c.args.a c.args.b _ (search rules) (search rules) c.from_fn.ensures.items.long
    (λ k h. let called = c.from_fn.ensures.items.at k zeros h in search rules)
