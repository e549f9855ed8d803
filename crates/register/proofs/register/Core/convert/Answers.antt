use Rattle.std.proofs.Common.{refl}
use Rattle.rules.specs.Calls.{convert}
use Rattle.register.proofs.Calling.{carries, convert_filled, err_is}
use Rattle.register.proofs.register.Core.convert.Goals as goal

pub returns-in_err-curve : goal.returns-in_err-curve
returns-in_err-curve c =
    let d = c.in_err-curve.ensures in
    rw (err_is _ _ c.from_residual.ensures.1) (record { does = d; promises = carries _ (convert c.args.number c.args.stages.now c.args.flows.now) _ _ _ (λ E1 E2. (d, refl)) })

pub returns : goal.returns
returns c =
    let a = c.in_ok-curve.ensures in
    let d = convert_filled c.args.self.now c.args.number _ _ c.args.stages.now c.args.flows.now c.fill.new.flows c.in_ok-curve.curve.lawful a.0.0 a.1 a.2 c.fill.result c.fill.ensures in
    record { does = d; promises = carries _ (convert c.args.number c.args.stages.now c.args.flows.now) _ _ _ (λ E1 E2. (d, refl)) }
