use Rattle.std.proofs.Common.{◌≡◌, ℕ, List, ◌+◌, ◌≤◌, length, drop, ap, ◌∙◌, arith, refl, rules}
use Rattle.modes.specs.Cmac.{zeros}
use Rattle.cipher.specs.declared.block.Block.{Block}
use Rattle.modes.specs.Layout.{cut}
use Rattle.modes.specs.Runs.{GivesEach, before, pairwise, by_pairs}
use Rattle.modes.proofs.Pieces.{sofar_none, sofar_all, length_cut}
use Rattle.modes.proofs.SideBySide.{sofar_eight, length_before}
use Rattle.modes.proofs.run.by_eights.Goals as goal
use Rattle.modes.proofs.run.by_eights.Goals.{else-loop-at-test, then-loop-at-test+else-at-end-at-gt64}

-- what was read is eight blocks, and so is what they are chained to
pairs : {P : List Block → List Block → List Block → Type 0} {f : Block → Block → Block} (xs : List ℕ) (s : Block) {bs cs rs : List Block}
    → bs ≡ cut 8 xs → cs ≡ before s bs → GivesEach P f → P cs bs rs → rs ≡ pairwise f cs bs
pairs xs s {bs = bs} r b gives p =
    let long : length bs ≡ 8 = ap length r ∙ length_cut 8 xs in
    gives _ _ _ (ap length b ∙ length_before s bs ∙ long) long p

pub loop-at-init : goal.loop-at-init
loop-at-init g c = (refl, refl, omega arith, λ f gives. sofar_none (by_pairs f) c.args.start c.args.buffer.now)

pub loop-at-preserved : goal.loop-at-preserved
loop-at-preserved g c =
    let h = c.loop-at.invariant in
    let fits : c.loop-at.at + 64 ≤ length c.loop-at.buffer = omega (arith, h.0, h.1, c.requires.whole) in (
      omega arith,
      omega arith,
      omega arith,
      λ f gives.
          sofar_eight f _ _ _ _ _ _ _ _ _ zeros (h.3 f gives) fits c.read_eight-blocks.ensures c.shifted.ensures (pairs (drop c.loop-at.at c.loop-at.buffer) c.loop-at.chain c.read_eight-blocks.ensures c.shifted.ensures gives c.many.ensures) c.write_eight.ensures,
    )

pub returns : goal.returns
returns g c = λ f gives.
    let h = c.loop-at.invariant in
    let now = c.args.buffer.now in
    elim c.loop-at-test.branch [
      | else-loop-at-test w ↦
          let all = sofar_all (by_pairs f) c.args.start now c.loop-at.chain c.loop-at.buffer c.loop-at.at (h.3 f gives) (omega (arith, h.0, w.loop-at-test)) in
          (w.buffer-is ∙ all.0, w.chain-is ∙ all.1)
      | then-loop-at-test+else-at-end-at-gt64 w ↦
          let fits : c.loop-at.at + 64 ≤ length c.loop-at.buffer = omega (arith, h.0, h.1, c.requires.whole, w.loop-at-test) in
          let more = sofar_eight f _ _ _ _ _ _ _ _ _ zeros (h.3 f gives) fits w.read_eight-blocks.ensures w.shifted.ensures (pairs (drop c.loop-at.at c.loop-at.buffer) c.loop-at.chain w.read_eight-blocks.ensures w.shifted.ensures gives w.many.ensures) w.write_eight.ensures in
          let all = sofar_all (by_pairs f) c.args.start now _ w.write_eight.new.buffer (c.loop-at.at + 64) more (search rules) in
          (w.buffer-is ∙ all.0, w.chain-is ∙ all.1)
    ]
