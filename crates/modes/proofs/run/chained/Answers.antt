use Rattle.std.proofs.Common.{◌+◌, ◌≤◌, length, ap, ◌∙◌, arith, refl, rules}
use Rattle.modes.proofs.Pieces.{sofar_none, sofar_turn, sofar_all}
use Rattle.modes.proofs.run.chained.Goals as goal
use Rattle.modes.proofs.run.chained.Goals.{else-loop-at-test, then-loop-at-test+else-at-end-at-gt8}

pub loop-at-init : goal.loop-at-init
loop-at-init g c = (refl, refl, omega arith, λ f gives. sofar_none f c.args.start c.args.buffer.now)

pub loop-at-preserved : goal.loop-at-preserved
loop-at-preserved g c =
    let h = c.loop-at.invariant in
    let fits : c.loop-at.at + 8 ≤ length c.loop-at.buffer = omega (arith, h.0, h.1, c.requires.whole) in (
      omega arith,
      omega arith,
      omega arith,
      λ f gives.
          sofar_turn f _ _ _ _ _ _ c.step-done.result (h.3 f gives) fits
          (gives _ _ _ c.step-done.ensures ∙ ap (f c.loop-at.chain) c.read_block.ensures) c.write_block.ensures,
    )

pub returns : goal.returns
returns g c = λ f gives.
    let h = c.loop-at.invariant in
    let now = c.args.buffer.now in
    elim c.loop-at-test.branch [
      | else-loop-at-test w ↦
          let all = sofar_all f c.args.start now c.loop-at.chain c.loop-at.buffer c.loop-at.at (h.3 f gives) (omega (arith, h.0, w.loop-at-test)) in
          (w.buffer-is ∙ all.0, w.chain-is ∙ all.1)
      | then-loop-at-test+else-at-end-at-gt8 w ↦
          let fits : c.loop-at.at + 8 ≤ length c.loop-at.buffer = omega (arith, h.0, h.1, c.requires.whole, w.loop-at-test) in
          let more = sofar_turn f _ _ _ _ _ _ w.step-done.result (h.3 f gives) fits
          (gives _ _ _ w.step-done.ensures ∙ ap (f c.loop-at.chain) w.read_block.ensures) w.write_block.ensures in
          let all = sofar_all f c.args.start now _ w.write_block.new.buffer (c.loop-at.at + 8) more (search rules) in
          (w.buffer-is ∙ all.0, w.chain-is ∙ all.1)
    ]
