use Rattle.std.proofs.Common.{◌≡◌, suc, ◌-◌, arith}
use Rattle.xtea.specs.Xtea.{uncycles}
use Rattle.xtea.proofs.Xtea.uncycles.Goals as goal

pub loop-i-preserved : goal.loop-i-preserved
unfolding uncycles
loop-i-preserved g c =
    let e : c.loop-i.i ≡ suc (c.loop-i.i - 1) = omega arith in
    λ k h. simp (c.uncycle-halves.ensures k h, c.sum_at.ensures) (rw e at (c.loop-i.invariant k h))
