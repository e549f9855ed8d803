use Rattle.std.proofs.Common.{◌++◌, length, drop, set, ap, ◌∙◌}
use Rattle.cipher.specs.Bytes.{block_of}
use Rattle.modes.proofs.Marks.{pad_is, eight}
use Rattle.modes.proofs.cmac.padded_block.Goals as goal

pub returns : goal.returns
returns c =
    let n = length c.args.rest.now in
    c.from.ensures.0 ∙ ap (λ l. block_of (set (l ++ drop n eight) n 128)) c.copy_from_slice.ensures.after ∙ pad_is c.args.rest.now c.requires
