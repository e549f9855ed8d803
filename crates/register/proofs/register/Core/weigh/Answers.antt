use Rattle.std.proofs.Common.{◌≡◌, Some, None, refl, ap, ◌∙◌}
use Rattle.std.specs.Result.{result_ok}
use Rattle.refusal.specs.declared.Refusal.TheVariants.{NoFreePlace}
use Rattle.curve.specs.Curves.{Makes}
use Rattle.rules.specs.Calls.{publish_4, publish_5}
use Rattle.register.proofs.Calling.{nowhere, stands_so, err_is, refused_by}
use Rattle.register.proofs.Looking.{in_force_of}
use Rattle.register.proofs.Uses.{full}
use Rattle.register.proofs.register.Core.weigh.Goals as goal

pub returns-then-has : goal.returns-then-has
returns-then-has c =
    let some : c.new.result ≡ Some c.in_ok-curve.curve = c.ok_or.ensures.ok_part ∙ ap result_ok c.in_ok-curve.was in
    let m : Makes c.args.stages.now c.args.flows.now = c.new.ensures.made.0 (rw some refl) in
    let f = in_force_of c.args.self.now c.args.number (c.has.ensures.some c.if-has.true) in
    publish_4 f.0 c.in_ok-unmarked.ensures.0 f.1 m refl refl

pub returns-in_err-place : goal.returns-in_err-place
returns-in_err-place c =
    let r = c.args.self.now in
    let u = c.in_ok-unmarked.ensures in
    let some : c.new.result ≡ Some c.in_ok-curve.curve = c.ok_or.ensures.ok_part ∙ ap result_ok c.in_ok-curve.was in
    let m : Makes c.args.stages.now c.args.flows.now = c.new.ensures.made.0 (rw some refl) in
    let p = refused_by c.vacant.result c.ok_or-2.result NoFreePlace c.in_err-place.field-0.0 c.ok_or-2.ensures.value c.in_err-place.was in
    let all = rw p.0 at c.vacant.ensures in
    rw (err_is _ _ c.from_residual-in_err-place.ensures.1, p.1) (publish_5 u.0 (stands_so r c.args.number None u.1 (nowhere r c.args.number (c.has.ensures.none c.if-has.false))) m (full r all) refl refl)
