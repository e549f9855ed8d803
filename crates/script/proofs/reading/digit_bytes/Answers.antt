use Rattle.std.proofs.Common.{◌≡◌, ◌*◌, length, sym, ap, ◌∙◌, arith}
use Rattle.hex_digits.proofs.Spelling.{length-spelled}
use Rattle.script.proofs.reading.digit_bytes.Goals as goal

pub returns-in-Err : goal.returns-in-Err
returns-in-Err c = λ bs h e.
    let long : length c.args.digits.now ≡ 2 * length bs = ap length e ∙ length-spelled bs in
    c.in-Err.ensures.0 bs h (omega (arith, c.as_mut_slice.ensures.len, c.in_ok-bytes.ensures.len)) (sym e)
