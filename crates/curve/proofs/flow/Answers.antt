use Rattle.std.proofs.Common.{◌≡◌, ◌+◌, get_or, pos, to_z, of_z, w32, rules}
use Rattle.std.proofs.lemmas.Int.{to_z-of_z}
use Rattle.curve.specs.Answers.{Holds}
use Rattle.curve.specs.Curves.{pair, flow_between}
use Rattle.curve.proofs.Finding.{HoldsFrom, answered}
use Rattle.curve.proofs.Windows.{of_two, first_is}
use Rattle.curve.proofs.flow.Goals as goal

pub returns : goal.returns
returns c =
    let ss = c.args.stages.now in
    let qs = c.args.flows.now in
    let x = c.args.stage in
    let a = c.find_map.ensures.runs in
    let b = c.zip.ensures.runs a.0 a.0.seen a.1 in
    let s = of_two b.0 ss _ _ (c.array_windows-stage_pairs.ensures.runs b.0 b.0.seen) (cc b.1) (cc b.1) in
    let q = of_two b.2.0 qs _ _ (c.array_windows-flow_pairs.ensures.runs b.2.0 b.2.0.seen) (cc b.2.1) (cc b.2.1) in
    let e : to_z w32 (of_z w32 x) ≡ x = to_z-of_z w32 x c.ranges.stage in
    let f = first_is a.0 b.0 b.2.0 ss qs b.2.2 s q (pos 0) (λ k. HoldsFrom ss qs x k → ⊥) _
    (λ k w l r h. let g : Holds (get_or w.0.now 0 (pos 0)) (get_or w.0.now 1 (pos 0)) (to_z w32 (of_z w32 x)) → ⊥ = search rules in rw (l.here, l.next, e) at g)
    _ (λ k y. HoldsFrom ss qs x k × (y ≡ flow_between (pair ss qs k) (pair ss qs (k + 1)) x))
    (λ k w y l r h. let g : Holds (get_or w.0.now 0 (pos 0)) (get_or w.0.now 1 (pos 0)) (to_z w32 (of_z w32 x)) × (y ≡ flow_between (record { stage = get_or w.0.now 0 (pos 0); flow = get_or w.1.now 0 0 }) (record { stage = get_or w.0.now 1 (pos 0); flow = get_or w.1.now 1 0 }) (to_z w32 (of_z w32 x))) = search rules in rw (l.here, l.next, r.here, r.next, e) at g)
    (λ x y f e. search rules) c.find_map.result a.2 in
    let d = answered ss qs x c.find_map.result f in
    record { first = d.first; lawful = d.lawful }
