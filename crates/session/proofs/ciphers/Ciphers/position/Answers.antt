use Rattle.std.proofs.Common.{vec_items, rules, tests}
use Rattle.std.proofs.lemmas.Iterator.{IsFirst-from_position, YieldsList-from_slice}
use Rattle.session.proofs.Finding.{Named, Other, at_position}
use Rattle.session.proofs.ciphers.Ciphers.position.Goals as goal

pub returns : goal.returns
returns c =
    let n = c.args.name.now in
    let es = vec_items c.args.self.now.entries in
    at_position n es c.position.result
    (IsFirst-from_position _ _ _ (Named n) (Other n) c.position.ensures.ran (YieldsList-from_slice es cc) (λ x q k. search (rules, tests)) (λ x q k. search (rules, tests)))
