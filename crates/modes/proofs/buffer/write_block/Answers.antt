use Rattle.std.proofs.Common.{◌∙◌, arith}
use Rattle.modes.proofs.Pieces.{put-block}
use Rattle.modes.proofs.buffer.write_block.Goals as goal

pub returns : goal.returns
returns c =
    put-block c.args.buffer.now _ c.args.at _ c.args.block (omega arith) (c.copy_from_slice.ensures.after ∙ c.into-bytes.ensures.0)
