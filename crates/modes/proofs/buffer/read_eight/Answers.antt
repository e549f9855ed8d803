use Rattle.modes.proofs.SideBySide.{eight_from}
use Rattle.modes.proofs.buffer.read_eight.Goals as goal

pub returns : goal.returns
returns c =
    eight_from c.args.buffer.now c.args.at _ _ _ _ _ _ _ _ c.read_block.ensures c.read_block-2.ensures c.read_block-3.ensures
    c.read_block-4.ensures c.read_block-5.ensures c.read_block-6.ensures c.read_block-7.ensures c.read_block-8.ensures
