use Rattle.std.proofs.Common.{◌≡◌, ◌+◌, min, true, false, rules}
use Rattle.std.proofs.lemmas.Iterator.{first_from_Range}
use Rattle.register.proofs.Looking.{lowest_of}
use Rattle.register.proofs.looks.lowest_above.Goals as goal

pub returns : goal.returns
returns g c =
    let T = goal.F-post g c.args.test in
    let f = first_from_Range _ _ _ c.find.result (λ k. T k true) (λ k. T k false) c.find.ensures.ran (λ x q k. search rules) (λ x q k. search rules) in
    let e : c.saturating_add.result ≡ min (c.args.after + 1) 65535 = search rules in
    lowest_of T c.args.after c.saturating_add.result e c.find.result f
