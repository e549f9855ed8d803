use Rattle.std.proofs.Common.{◌≡◌, codes, arith}
use Rattle.script.proofs.Misreading.{blowfish_made, triple_made, six, eight}
use Rattle.script.proofs.reading.make.Goals as goal

pub returns-in-triple : goal.returns-in-triple
returns-in-triple c =
    let kind : c.in_ok-kind.kind.now ≡ codes "triple" = grind (arith, six c.in_ok-kind.kind.now (omega arith)) in
    triple_made _ _ _ c.in_ok-kind.ensures _ kind c.triple.ensures

pub returns-in-blowfish : goal.returns-in-blowfish
returns-in-blowfish c =
    let kind : c.in_ok-kind.kind.now ≡ codes "blowfish" = grind (arith, eight c.in_ok-kind.kind.now (omega arith)) in
    blowfish_made _ _ _ c.in_ok-kind.ensures _ _ kind c.ends-in-blowfish.ensures c.then_some-in-blowfish.ensures
