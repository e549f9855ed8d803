use Rattle.std.proofs.Common.{◌≡◌, ◌+◌, ◌<◌, ◌≢◌, length, get_or, drop, pos, sym, refl, ap, ◌∙◌, subst, arith, w32, SFits, to_z, of_z, rules, below_more}
use Rattle.std.proofs.lemmas.List.{get_or-set_same, get_or-set_other, drop-set-lt, drop-drop}
use Rattle.std.proofs.lemmas.Int.{to_z-of_z}
use Rattle.curve.specs.Curves.{points, Covered, FlowAt}
use Rattle.register.proofs.Filling.{within_covered, some_flow, answered_flow}
use Rattle.register.proofs.fill.write.Goals as goal

pub loop-i-init : goal.loop-i-init
loop-i-init c = ((λ k h. absurd (omega arith)), refl)

pub unwrap-requires : goal.unwrap-requires
unwrap-requires c =
    let ss = c.args.curve.stages.now in
    let qs = c.args.curve.flows.now in
    let f : SFits w32 (get_or c.args.stages.now c.loop-i.i (pos 0)) = search rules in
    let e : to_z w32 (of_z w32 (get_or c.args.stages.now c.loop-i.i (pos 0))) ≡ get_or c.args.stages.now c.loop-i.i (pos 0) = to_z-of_z w32 _ f in
    let w = within_covered ss qs c.args.curve.lawful c.args.stages.now c.requires.within c.loop-i.i (omega arith) in
    some_flow (points ss qs) _ _ c.flow.ensures (subst (λ x. Covered (points ss qs) x) (sym e) w)

pub loop-i-preserved : goal.loop-i-preserved
loop-i-preserved c =
    let lt : c.loop-i.i < length c.loop-i.flows = omega arith in
    let p = points c.args.curve.stages.now c.args.curve.flows.now in
    let f : SFits w32 (get_or c.args.stages.now c.loop-i.i (pos 0)) = search rules in
    let e : to_z w32 (of_z w32 (get_or c.args.stages.now c.loop-i.i (pos 0))) ≡ get_or c.args.stages.now c.loop-i.i (pos 0) = to_z-of_z w32 _ f in
    let now : FlowAt p (get_or c.args.stages.now c.loop-i.i (pos 0)) c.unwrap.result = subst (λ x. FlowAt p x c.unwrap.result) e (answered_flow p c.args.curve.lawful.1 _ _ _ c.flow.ensures c.unwrap.ensures) in
    let kept = c.loop-i.invariant.0 in (
      below_more _ _
          (λ k h. let ne : k ≢ c.loop-i.i = omega arith in rw get_or-set_other (kept k h))
          (rw get_or-set_same now),
      drop-set-lt (c.loop-i.i + 1) c.loop-i.flows c.loop-i.i c.unwrap.result (omega arith) ∙ sym (drop-drop 1 c.loop-i.i c.loop-i.flows) ∙ ap (drop 1) c.loop-i.invariant.1 ∙ drop-drop 1 c.loop-i.i c.args.flows.now,
    )

pub returns : goal.returns
returns c =
    let e : c.loop-i.i ≡ length c.args.stages.now = omega arith in
    record {
      size = c.loop-i.auto.flows;
      flow = λ k h. c.loop-i.invariant.0 k (omega arith);
      rest = subst (λ k. drop k c.loop-i.flows ≡ drop k c.args.flows.now) e c.loop-i.invariant.1;
    }
