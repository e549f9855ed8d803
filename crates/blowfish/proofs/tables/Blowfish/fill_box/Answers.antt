use Rattle.std.proofs.Common.{◌≡◌, ◌∙◌, add-one, arith}
use Rattle.cipher.specs.Rounds.{rounds}
use Rattle.blowfish.specs.Schedule.{step_s, filled_box}
use Rattle.blowfish.proofs.Filling.{step_s_is}
use Rattle.blowfish.proofs.tables.Blowfish.fill_box.Goals as goal

pub loop-i-preserved : goal.loop-i-preserved
loop-i-preserved c =
    let step = step_s_is (rounds (step_s c.args.k) c.loop-i.i (c.args.self.now, c.args.start)) c.args.k c.loop-i.self
    c.loop-i.last c.encipher-last.result c.loop-i.i c.loop-i.invariant.0 c.loop-i.invariant.1 c.encipher-last.ensures in
    rw (add-one c.loop-i.i) (c.replace.ensures ∙ step.0, step.1)

pub returns : goal.returns
unfolding filled_box
returns c =
    let e : c.loop-i.i ≡ 128 = omega arith in
    record { table = rw e at c.loop-i.invariant.0; last = rw e at c.loop-i.invariant.1 }
