use Rattle.std.proofs.Common.{ℕ, get_or, ◌∙◌, arith, w8, Fits, rules}
use Rattle.std.proofs.ByRecursion.{All-from_get_or}
use Rattle.cipher.specs.Blocks.{Sound}
use Rattle.cipher.specs.Bytes.{Bytes}
use Rattle.modes.specs.Texts.{Whole}
use Rattle.modes.proofs.Back.{one_text, goes_on}
use Rattle.modes.proofs.decipher.Goals as goal

pub returns : goal.returns
returns g c =
    let k = g.met.C.BlockCipher.inverse c.args.cipher.now in
    let sound : Sound c.args.start = (omega arith, omega arith) in
    let fits : (i : ℕ) → Fits w8 (get_or c.args.buffer.now i 0) = λ i. search rules in
    let given : Bytes c.args.buffer.now = All-from_get_or _ _ 0 (λ i h. (fits i).fits) in
    let whole : Whole c.args.buffer.now = search rules in
    let done = c.backward.ensures.0 in
    (whole, one_text k _ _ _ _ sound given whole done, c.backward.ensures.1 ∙ goes_on k _ _ _ _ sound given done)
