use Rattle.std.proofs.Common.{ap, ◌∙◌, rules}
use Rattle.cipher.specs.Bytes.{bytes_of}
use Rattle.cipher.proofs.Bytes.{bytes_of-block_of}
use Rattle.cipher.proofs.block.BlockFromArrayU88.from.Goals as goal

pub returns : goal.returns
returns c = (c.held_by.ensures, ap bytes_of c.held_by.ensures ∙ bytes_of-block_of c.args.bytes (search rules) (λ i. search rules))
