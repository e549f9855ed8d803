use Rattle.std.proofs.Common.{rules}
use Rattle.std.proofs.lemmas.Iterator.{cases_from_all, YieldsList-from_slice}
use Rattle.hex_digits.specs.Worth.{IsByte, NoByte}
use Rattle.hex_digits.proofs.all_bytes.Goals as goal

pub returns : goal.returns
returns c =
    cases_from_all _ _ _ IsByte NoByte c.all.ensures.ran (YieldsList-from_slice c.args.pairs.now cc) (λ x q k. search rules)
    (λ x q k. search rules)
