use Rattle.std.proofs.Common.{◌≡◌, length, arith}
use Rattle.std.proofs.lemmas.Bool.Decides.{nat_tests}
use Rattle.script.proofs.ByteWords.{no_word, not_hyphen, another_word}
use Rattle.script.proofs.reading.bytes.Goals as goal

pub returns-then-is_empty : goal.returns-then-is_empty
returns-then-is_empty c =
    let none : length c.args.word.now ≡ 0 = grind (arith, nat_tests, c.if-is_empty.ensures) in
    no_word c.args.word.now none

pub returns : goal.returns
returns c =
    not_hyphen c.args.word.now c.digit_bytes.result (λ e. grind (arith, nat_tests, c.if-is_empty.ensures, e))
    (another_word c.args.word.now c.as_slice.result.now c.if-eq.ensures c.as_slice.ensures) c.digit_bytes.ensures
