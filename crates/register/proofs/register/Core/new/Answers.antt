use Rattle.std.proofs.Common.{◌≡◌, ℕ, false, length, refl, ap, ◌∙◌, arith}
use mathlib.Core.Path.{fun_ext}
use Rattle.std.proofs.lemmas.Bool.{both_ways}
use Rattle.register.specs.Meaning.{standing_of}
use Rattle.register.specs.Places.{held, unused}
use Rattle.register.proofs.Fresh.{none-marked, none-once, none-held}
use Rattle.register.proofs.register.Core.new.Goals as goal

pub invariant_of-result : goal.invariant_of-result
invariant_of-result c =
    let e = c.empty.ensures in
    record {
      long = ap length e;
      wide = refl;
      counted = omega arith;
      apart = rw e (λ n. none-once 32 n unused refl);
      marks = (λ n h. absurd (both_ways _ (none-marked 1025 n) h));
      lawful = (λ n k h. let z = ap (λ ps. held ps n) e ∙ none-held 32 n unused refl in absurd (let y : ◌≡◌ {A = ℕ} 0 1 = cc (h, z) in omega arith));
    }

pub returns : goal.returns
returns c =
    let e = c.empty.ensures in
    let g = fun_ext (λ n. ap (λ b. standing_of b (held c.empty.result.places n)) (none-marked 1025 n) ∙ ap (standing_of false) (ap (λ ps. held ps n) e ∙ none-held 32 n unused refl)) in
    (λ i. record { station = c.args.station; serial = 0; standing = g i })
