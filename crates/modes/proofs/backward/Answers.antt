use Rattle.std.proofs.Common.{sym, refl, ◌∙◌, subst, rules}
use Rattle.cipher.specs.declared.block.Block.{Block}
use Rattle.modes.specs.declared.mode.Mode.{Mode}
use Rattle.modes.specs.declared.mode.Mode.TheVariants.{Ecb}
use Rattle.cipher.specs.Blocks.{xor}
use Rattle.modes.specs.Formulas.{backward}
use Rattle.modes.specs.Runs.{Ran}
use Rattle.modes.proofs.SideBySide.{ran_alone, pairwise_second, pairwise_map, pairwise_onto, pairwise_flip}
use Rattle.modes.proofs.backward.Goals as goal

pub returns-in-Ecb : goal.returns-in-Ecb
returns-in-Ecb g c =
    let E = g.C.BlockCipher.enc c.args.cipher.now in
    let D = g.C.BlockCipher.dec c.args.cipher.now in
    let s = c.args.start in
    let old = c.args.buffer.now in
    let new = c.side_by_side.new.buffer in
    let done = c.side_by_side.ensures (λ _ b. D b) (λ cs bs rs k l p. p.2 ∙ pairwise_second D cs bs (k ∙ sym l)) (λ d b r p. search rules) in
    subst (λ (m : Mode). Ran (backward m E D) s old s new) (sym c.in-Ecb.is) (ran_alone D (backward Ecb E D) (λ d b. refl) s c.side_by_side.result old new done)

pub returns-in-Cbc : goal.returns-in-Cbc
returns-in-Cbc g c =
    let E = g.C.BlockCipher.enc c.args.cipher.now in
    let D = g.C.BlockCipher.dec c.args.cipher.now in
    let s = c.args.start in
    let old = c.args.buffer.now in
    let new = c.side_by_side-in-Cbc.new.buffer in
    let f : Block → Block → Block = λ d b. xor (D b) d in
    let done = c.side_by_side-in-Cbc.ensures f (λ cs bs rs k l p. p.2 ∙ sym (pairwise_flip f cs bs (k ∙ sym l) ∙ pairwise_map xor D cs bs)) (λ d b r p. search rules) in
    subst (λ (m : Mode). Ran (backward m E D) s old c.side_by_side-in-Cbc.result new) (sym c.in-Cbc.is) done

pub returns-in-Cfb : goal.returns-in-Cfb
returns-in-Cfb g c =
    let E = g.C.BlockCipher.enc c.args.cipher.now in
    let D = g.C.BlockCipher.dec c.args.cipher.now in
    let s = c.args.start in
    let old = c.args.buffer.now in
    let new = c.side_by_side-in-Cfb.new.buffer in
    let f : Block → Block → Block = λ d b. xor b (E d) in
    let done = c.side_by_side-in-Cfb.ensures f (λ cs bs rs k l p. p.2 ∙ sym (pairwise_flip f cs bs (k ∙ sym l) ∙ pairwise_onto xor E bs cs)) (λ d b r p. search rules) in
    subst (λ (m : Mode). Ran (backward m E D) s old c.side_by_side-in-Cfb.result new) (sym c.in-Cfb.is) done
