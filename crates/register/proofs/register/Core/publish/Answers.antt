use Rattle.std.proofs.Common.{◌<◌, [], length, refl, ap, ◌∙◌, arith}
use Rattle.std.proofs.lemmas.List.{length-set}
use Rattle.rules.specs.Calls.{publish, accepted}
use Rattle.register.specs.Places.{curve_of}
use Rattle.register.specs.Soundness.{Sound}
use Rattle.register.proofs.Calling.{nowhere, drawn_so, carries, err_is, publish_done, occupied}
use Rattle.register.proofs.Laws.{placed_once, placed_law}
use Rattle.register.proofs.register.Core.publish.Goals as goal

pub returns-in_err-place : goal.returns-in_err-place
returns-in_err-place c =
    let d = c.in_err-place.ensures in
    rw (err_is _ _ c.from_residual.ensures.1) (record {
      does = d;
      kept = refl;
      placed = tt;
      promises = carries _ (publish c.args.number c.args.stages.now c.args.flows.now) _ [] _ (λ E1 E2. (d, refl));
    })

pub occupy-requires : goal.occupy-requires
occupy-requires c = c.in_ok-place.ensures.0.3

pub invariant_of-self : goal.invariant_of-self
invariant_of-self c =
    let r = c.args.self.now in
    let (a, ss, qs) = c.in_ok-place.ensures in
    let o = c.occupy.ensures in
    let e = o.1 in
    let within : c.in_ok-place.place < length r.table.places = omega (arith, r.long, a.3) in
    let drawn = drawn_so o.0 c.args.stages.now c.args.flows.now (o.3 ∙ ss) (o.4 ∙ qs) in
    let s : Sound r.withdrawn c.args.number (curve_of o.0) = rw drawn (record { number = a.0.0; unmarked = a.0.1; lawful = a.1.1 }) in
    record {
      long = ap length e ∙ simp length-set r.long;
      wide = r.wide;
      counted = r.counted;
      apart = rw e (placed_once r.table.places _ _ o.0 a.4 (nowhere r c.args.number a.2) o.2 r.apart);
      marks = r.marks;
      lawful = rw e (placed_law r.table.places _ _ o.0 a.4 (nowhere r c.args.number a.2) o.2 within r.withdrawn s r.lawful);
    }

pub returns : goal.returns
returns c =
    let r = c.args.self.now in
    let (a, ss, qs) = c.in_ok-place.ensures in
    let o = c.occupy.ensures in
    let ps = c.occupy.new.self.places in
    let d = publish_done r c.args.number c.args.stages.now c.args.flows.now _ o.0 ps a o.1 o.2 (drawn_so o.0 c.args.stages.now c.args.flows.now (o.3 ∙ ss) (o.4 ∙ qs)) in
    record {
      does = d;
      kept = tt;
      placed = occupied r c.args.number c.args.stages.now c.args.flows.now _ o.0 ps a o.1 o.2 (drawn_so o.0 c.args.stages.now c.args.flows.now (o.3 ∙ ss) (o.4 ∙ qs));
      promises = carries _ (publish c.args.number c.args.stages.now c.args.flows.now) accepted [] _ (λ E1 E2. (d, refl));
    }
