use Rattle.std.proofs.Common.{ℕ, get_or, ◌∙◌, arith, w8, Fits, rules}
use Rattle.std.proofs.ByRecursion.{All-from_get_or}
use Rattle.cipher.specs.Blocks.{Sound}
use Rattle.cipher.specs.Bytes.{Bytes}
use Rattle.modes.specs.Texts.{Whole}
use Rattle.modes.proofs.Back.{one_before}
use Rattle.modes.proofs.Joins.{in_pieces}
use Rattle.modes.proofs.encipher.Goals as goal

pub returns : goal.returns
returns g c =
    let k = g.met.C.BlockCipher.inverse c.args.cipher.now in
    let E = g.C.BlockCipher.enc c.args.cipher.now in
    let sound : Sound c.args.start = (omega arith, omega arith) in
    let fits : (i : ℕ) → Fits w8 (get_or c.args.buffer.now i 0) = λ i. search rules in
    let old : Bytes c.args.buffer.now = All-from_get_or _ _ 0 (λ i h. (fits i).fits) in
    let whole : Whole c.args.buffer.now = search rules in
    let done = c.forward.ensures.0 in
    record {
      does = (whole, done, c.forward.ensures.1);
      back = one_before k _ _ _ _ sound old whole done;
      pieces = λ xs ys e w.
          let p = in_pieces c.args.mode E c.args.start _ xs ys e w in
          (done ∙ p.0, c.forward.ensures.1 ∙ p.1);
    }
