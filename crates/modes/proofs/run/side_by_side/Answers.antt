use Rattle.std.proofs.Common.{rules, arith}
use Rattle.modes.specs.Runs.{by_pairs}
use Rattle.modes.proofs.Joins.{ran_on}
use Rattle.modes.proofs.run.side_by_side.Goals as goal

pub returns : goal.returns
returns g c = λ f many one.
    let front = c.by_eights-chain.ensures f many in
    let rest = c.chained.ensures (by_pairs f) (λ a b r p. search (one, rules)) in
    ran_on (by_pairs f) _ _ _ c.args.buffer.now _ _ _ _ (search rules) (omega (arith, c.split_at_mut-front.ensures.front_len)) front rest
