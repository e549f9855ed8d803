use Rattle.std.proofs.Common.{◌≡◌, add-one, arith}
use Rattle.cipher.specs.Rounds.{rounds}
use Rattle.blowfish.specs.Schedule.{step_p, zero_block, filled_p}
use Rattle.blowfish.proofs.Filling.{step_p_is}
use Rattle.blowfish.proofs.tables.Blowfish.fill_p.Goals as goal

pub loop-i-preserved : goal.loop-i-preserved
loop-i-preserved c =
    rw (add-one c.loop-i.i)
    (step_p_is (rounds step_p c.loop-i.i (c.args.self.now, zero_block)) c.loop-i.self c.loop-i.last _ c.loop-i.i
    c.loop-i.invariant.0 c.loop-i.invariant.1 c.encipher-last.ensures)

pub returns : goal.returns
unfolding filled_p
returns c =
    let e : c.loop-i.i ≡ 9 = omega arith in
    record { table = rw e at c.loop-i.invariant.0; last = rw e at c.loop-i.invariant.1 }
