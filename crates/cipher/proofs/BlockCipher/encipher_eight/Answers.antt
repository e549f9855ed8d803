use Rattle.std.proofs.Common.{rules}
use Rattle.cipher.proofs.Eights.{each_is}
use Rattle.cipher.proofs.BlockCipher.encipher_eight.Goals as goal

pub returns : goal.returns
returns g c =
    each_is _ 8 _ _ (search rules) (c.map.ensures.items.long)
    (λ k d h. let called = c.map.ensures.items.at k d d h in search rules)
