use Rattle.std.proofs.Common.{◌≡◌, Some, refl, ap, ◌∙◌}
use Rattle.std.specs.Result.{result_ok}
use Rattle.refusal.specs.declared.Refusal.TheVariants.{NotInForce}
use Rattle.rules.specs.Calls.{convert_6, convert_11}
use Rattle.register.proofs.Calling.{err_is, refused_by}
use Rattle.register.proofs.Looking.{no_standing}
use Rattle.register.proofs.register.Core.seek.Goals as goal

pub returns-in_err-curve : goal.returns-in_err-curve
returns-in_err-curve c =
    let u = c.in_ok-unmarked.ensures in
    let p = refused_by c.points.result c.ok_or.result NotInForce c.in_err-curve.field-0.0 c.ok_or.ensures.value c.in_err-curve.was in
    let f = rw p.0 at c.points.ensures in
    rw (err_is _ _ c.from_residual-in_err-curve.ensures.1, p.1) (convert_6 u.0 (no_standing c.args.self.now c.args.number u.1 f) refl refl)

pub returns-then-flows-stages : goal.returns-then-flows-stages
returns-then-flows-stages c =
    let some : c.points.result ≡ Some c.in_ok-curve.curve = c.ok_or.ensures.ok_part ∙ ap result_ok c.in_ok-curve.was in
    let f = rw some at c.points.ensures in
    convert_11 _ c.in_ok-unmarked.ensures.0 f c.if-flows-stages.true refl refl
