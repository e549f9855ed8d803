use Rattle.std.proofs.Common.{◌≡◌, ◌+◌, ◌∙◌, rules, add-one}
use Rattle.blowfish.specs.declared.tables.TheConstants.{PAIRS}
use Rattle.blowfish.specs.Blowfish.{begun_at}
use Rattle.blowfish.proofs.Turns.{after_first, step_is, turns_are}
use Rattle.blowfish.proofs.tables.Blowfish.forward_one.Goals as goal

pub loop-odd-preserved : goal.loop-odd-preserved
loop-odd-preserved c =
    let t = c.args.self.now in
    let j = c.loop-odd.odd-index in
    step_is t j (j + 1) _ _ c.loop-odd.x _ (add-one j) c.turns-x.ensures (after_first t.p PAIRS j (search rules)) (search rules)
    (search rules) c.loop-odd.invariant

pub returns : goal.returns
returns c =
    let t = c.args.self.now in
    let e : c.loop-odd.odd-index ≡ PAIRS = search rules in
    let first : c.begin-x.result ≡ begun_at t 0 c.args.block = search rules in
    c.exchange.ensures ∙ turns_are t PAIRS c.args.block _ c.loop-odd.x first (rw e at c.loop-odd.invariant)
