use Rattle.std.proofs.Common.{◌≡◌, get_or, sym, ◌∙◌, arith}
use Rattle.std.proofs.lemmas.List.{get_or_read}
use Rattle.register.specs.Places.{blank}
use Rattle.register.proofs.Calling.{nowhere}
use Rattle.register.proofs.Looking.{in_force_at, not_in_force}
use Rattle.register.proofs.Uses.{makes_at}
use Rattle.register.proofs.register.Core.points.Goals as goal

pub returns-in_err-i : goal.returns-in_err-i
returns-in_err-i c = rw c.from_residual.ensures (λ f. not_in_force c.args.self.now c.args.number (nowhere c.args.self.now c.args.number c.in_err-i.ensures) f)

pub curve-requires : goal.curve-requires
curve-requires c =
    let r = c.args.self.now in
    let p = c.index-self-i in
    let e : get_or r.table.places c.in_ok-i.i p.result ≡ get_or r.table.places c.in_ok-i.i blank = sym p.is ∙ get_or_read r.table.places c.in_ok-i.i p.result (omega (arith, r.long, c.in_ok-i.ensures.0)) p.is blank in
    rw e (makes_at r c.args.number c.in_ok-i.i c.in_ok-i.ensures.1)

pub returns : goal.returns
returns c =
    let r = c.args.self.now in
    let p = c.index-self-i in
    let e : get_or r.table.places c.in_ok-i.i p.result ≡ get_or r.table.places c.in_ok-i.i blank = sym p.is ∙ get_or_read r.table.places c.in_ok-i.i p.result (omega (arith, r.long, c.in_ok-i.ensures.0)) p.is blank in
    let k = c.curve.ensures in
    rw (k.0, k.1, e) (in_force_at r c.args.number c.in_ok-i.i c.in_ok-i.ensures.1)
