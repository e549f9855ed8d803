use Rattle.std.proofs.Common.{◌≡◌, ◌+◌, ◌*◌, length, take, slice_index_or, sym, ap, ◌∙◌, arith, rules}
use Rattle.std.proofs.lemmas.List.{take_more, take_all, length-take-le}
use Rattle.modes.specs.Cmac.{zeros}
use Rattle.modes.specs.Layout.{with_block, with_blocks}
use Rattle.modes.proofs.Pieces.{with_none, write_more}
use Rattle.modes.proofs.buffer.write_eight.Goals as goal

pub loop-k-init : goal.loop-k-init
loop-k-init c = sym (with_none c.args.buffer.now c.args.at)

pub loop-k-preserved : goal.loop-k-preserved
loop-k-preserved c =
    let xs = c.args.buffer.now in
    let i = c.args.at in
    let bs = c.args.blocks in
    let k = c.loop-k.k in
    let b = slice_index_or bs k zeros in
    let eight : length bs ≡ 8 = search rules in
    let long : length (take k bs) ≡ k = length-take-le k bs (omega (arith, eight)) in
    c.write_block.ensures
    ∙ ap (λ ys. with_block ys (i + 8 * k) b) c.loop-k.invariant
    ∙ write_more xs i (i + 8 * k) (take k bs) b (omega (arith, long)) (omega (arith, c.requires))
    ∙ ap (with_blocks xs i) (sym (take_more bs k zeros (omega (arith, eight))))

pub returns : goal.returns
returns c =
    let eight : length c.args.blocks ≡ 8 = search rules in
    c.loop-k.invariant ∙ ap (with_blocks c.args.buffer.now c.args.at) (take_all c.loop-k.k c.args.blocks (omega (arith, eight)))
