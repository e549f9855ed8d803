use Rattle.std.proofs.Common.{get_or, pos, rules}
use Rattle.curve.specs.Answers.{Step, StepAt}
use Rattle.curve.proofs.Windows.{of_two, all_are}
use Rattle.curve.proofs.each_step.Goals as goal

pub returns : goal.returns
returns c =
    let ss = c.args.stages.now in
    let qs = c.args.flows.now in
    let a = c.all.ensures.runs in
    let b = c.zip.ensures.runs a.0 a.0.seen a.1 in
    let s = of_two b.0 ss _ _ (c.array_windows.ensures.runs b.0 b.0.seen) (cc b.1) (cc b.1) in
    let q = of_two b.2.0 qs _ _ (c.array_windows-2.ensures.runs b.2.0 b.2.0.seen) (cc b.2.1) (cc b.2.1) in
    all_are a.0 b.0 b.2.0 ss qs b.2.2 s q (pos 0) (StepAt ss qs) _ _
    (λ k w l r h. let g : Step (get_or w.0.now 0 (pos 0)) (get_or w.1.now 0 0) (get_or w.0.now 1 (pos 0)) (get_or w.1.now 1 0) = search rules in rw (l.here, r.here, l.next, r.next) at g)
    (λ k w l r h t. let g : Step (get_or w.0.now 0 (pos 0)) (get_or w.1.now 0 0) (get_or w.0.now 1 (pos 0)) (get_or w.1.now 1 0) = rw (l.here, r.here, l.next, r.next) t in search rules)
    (λ x y f e. search rules) c.requires c.all.result a.2
