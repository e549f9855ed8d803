use Rattle.std.proofs.Common.{add-one, arith}
use Rattle.cipher.specs.Rounds.{rounds}
use Rattle.blowfish.specs.Schedule.{filled_box}
use Rattle.blowfish.proofs.Filling.{filled_box_is, scheduled_is}
use Rattle.blowfish.proofs.tables.Blowfish.schedule.Goals as goal

pub loop-k-preserved : goal.loop-k-preserved
loop-k-preserved c =
    rw (add-one c.loop-k.k)
    (filled_box_is (rounds filled_box c.loop-k.k (c.fill_p-last.new.self, c.fill_p-last.result)) c.loop-k.k c.loop-k.self
    _ c.loop-k.last _ c.loop-k.invariant.0 c.loop-k.invariant.1 c.fill_box-last.ensures.table c.fill_box-last.ensures.last)

pub returns : goal.returns
returns c =
    scheduled_is c.args.key.now c.args.self.now c.mix.new.self c.fill_p-last.new.self c.loop-k.self
    c.fill_p-last.result c.loop-k.k c.mix.ensures c.fill_p-last.ensures.table c.fill_p-last.ensures.last (omega arith)
    c.loop-k.invariant.0
