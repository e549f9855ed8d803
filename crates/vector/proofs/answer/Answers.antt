use Rattle.std.proofs.Common.{arith}
use Rattle.vector.proofs.Lines.{foreign_length}
use Rattle.vector.proofs.answer.Goals as goal

pub returns-then-line-eq-BLOWFISH_LINE : goal.returns-then-line-eq-BLOWFISH_LINE
returns-then-line-eq-BLOWFISH_LINE c =
    rw c.from.ensures
    (
    record {
      by_blowfish = c.under.ensures.ciphertext;
      by_xtea = λ key b v. absurd (foreign_length 16 c.args.line.now (λ e. omega (arith, e)) key b v);
      other = λ f _. c.under.ensures.other f;
    }
    )

pub returns-else-line-eq-BLOWFISH_LINE : goal.returns-else-line-eq-BLOWFISH_LINE
returns-else-line-eq-BLOWFISH_LINE c =
    rw c.from-else-line-eq-BLOWFISH_LINE.ensures
    (
    record {
      by_blowfish = λ key b v. absurd (foreign_length 8 c.args.line.now (λ e. omega (arith, e)) key b v);
      by_xtea = c.under-else-line-eq-BLOWFISH_LINE.ensures.ciphertext;
      other = λ _ f. c.under-else-line-eq-BLOWFISH_LINE.ensures.other f;
    }
    )
