use Rattle.std.proofs.Common.{rules}
use Rattle.cipher.proofs.Eights.{each_is}
use Rattle.xtea.proofs.XteaBlockCipher.decipher_eight.Goals as goal

pub returns : goal.returns
returns c = each_is _ 8 _ _ (search rules) (search rules) (λ k d h. search rules)
