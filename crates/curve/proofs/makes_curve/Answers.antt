use Rattle.std.proofs.Common.{arith}
use Rattle.std.proofs.lemmas.Bool.{false≢true}
use Rattle.std.proofs.lemmas.Bool.Decides.{nat_tests}
use Rattle.curve.proofs.Points.{makes_size, steps_of, lawful_points}
use Rattle.curve.proofs.makes_curve.Goals as goal

pub returns-then-count-flows : goal.returns-then-count-flows
returns-then-count-flows c = (λ e. absurd (false≢true e), λ m. let s = makes_size c.args.stages.now c.args.flows.now m in grind (arith, nat_tests))

pub returns : goal.returns
returns c =
    let ss = c.args.stages.now in
    let qs = c.args.flows.now in (
      λ e. (omega arith, lawful_points ss qs (omega arith) (omega arith) (c.each_step.ensures.0 e) (omega arith)),
      λ m. c.each_step.ensures.1 (steps_of ss qs m.0 m.1),
    )
