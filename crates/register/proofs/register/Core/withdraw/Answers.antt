use Rattle.std.proofs.Common.{true, false, [], set, sym, refl, ap, ◌∙◌, ⊎_elim, arith}
use Rattle.std.proofs.lemmas.List.{length-set, get_or-set_other}
use Rattle.std.proofs.lemmas.Bool.{cases_eq}
use Rattle.refusal.specs.Refusals.{number_of}
use Rattle.rules.specs.Calls.{withdraw, refused, accepted, Withdraw, withdraw_1}
use Rattle.register.specs.Meaning.{meaning}
use Rattle.register.proofs.Calling.{carries, err_is, withdraw_done}
use Rattle.register.proofs.Laws.{marked_law}
use Rattle.register.proofs.register.Core.withdraw.Goals as goal

pub returns-in_err-known : goal.returns-in_err-known
returns-in_err-known c =
    let k = c.in_err-known.ensures in
    let d : Withdraw c.args.number (meaning c.args.self.now) (refused (number_of c.in_err-known.field-0.0)) (meaning c.args.self.now) = withdraw_1 k.1 (ap refused k.0) refl in
    rw (err_is _ _ c.from_residual.ensures.1) (record { does = d; kept = refl; freed = tt; promises = carries _ (withdraw c.args.number) _ [] _ (λ E1 E2. (d, refl)) })

pub invariant_of-self : goal.invariant_of-self
invariant_of-self c =
    let r = c.args.self.now in
    let e = c.evict.ensures in
    record {
      long = e.long ∙ r.long;
      wide = simp length-set r.wide;
      counted = r.counted;
      apart = (λ m. e.onces m (r.apart m));
      marks = (λ k h. ⊎_elim (λ q. omega (arith, q)) (λ ne. r.marks k (sym (get_or-set_other r.withdrawn c.args.number k _ false ne) ∙ h)) (cases_eq k c.args.number));
      lawful = marked_law c.evict.new.self.places r.withdrawn c.args.number _ e.gone (λ n k h ne. r.lawful n k (sym (e.others n ne) ∙ h));
    }

pub returns : goal.returns
returns c =
    let r = c.args.self.now in
    let e = c.evict.ensures in
    let d = withdraw_done r c.args.number c.evict.new.self.places (set r.withdrawn c.args.number true) refl c.in_ok-known.ensures e.others in
    record {
      does = d;
      kept = tt;
      freed = record { freed = e.freed; others = e.stays };
      promises = carries _ (withdraw c.args.number) accepted [] _ (λ E1 E2. (d, refl));
    }

pub evict-requires : goal.evict-requires
evict-requires c = record { whole = c.args.self.now.long; apart = c.args.self.now.apart c.args.number }
