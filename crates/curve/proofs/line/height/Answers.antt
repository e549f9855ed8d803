use Rattle.std.proofs.Common.{arith}
use Rattle.std.proofs.lemmas.Int.{ints}
use Rattle.curve.specs.Curves.{above}
use Rattle.curve.proofs.line.height.Goals as goal

pub returns : goal.returns
unfolding above
returns c = record { value = omega (arith, ints); small = omega (arith, ints) }
