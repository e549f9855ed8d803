use Rattle.std.proofs.Common.{sym, refl, ◌∙◌, subst, rules}
use Rattle.modes.specs.declared.mode.Mode.{Mode}
use Rattle.modes.specs.declared.mode.Mode.TheVariants.{Ecb}
use Rattle.modes.specs.Formulas.{forward}
use Rattle.modes.specs.Runs.{Ran}
use Rattle.modes.proofs.SideBySide.{ran_alone, pairwise_second}
use Rattle.modes.proofs.forward.Goals as goal

pub returns-in-Ecb : goal.returns-in-Ecb
returns-in-Ecb g c =
    let E = g.C.BlockCipher.enc c.args.cipher.now in
    let s = c.args.start in
    let old = c.args.buffer.now in
    let new = c.side_by_side.new.buffer in
    let done = c.side_by_side.ensures (λ _ b. E b) (λ cs bs rs k l p. p.2 ∙ pairwise_second E cs bs (k ∙ sym l)) (λ d b r p. search rules) in
    subst (λ (m : Mode). Ran (forward m E) s old s new) (sym c.in-Ecb.is) (ran_alone E (forward Ecb E) (λ d b. refl) s c.side_by_side.result old new done)
