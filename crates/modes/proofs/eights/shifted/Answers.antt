use Rattle.std.proofs.Common.{rules, sym, ap}
use Rattle.modes.specs.Runs.{before}
use Rattle.modes.proofs.SideBySide.{eight_are}
use Rattle.modes.proofs.eights.shifted.Goals as goal

pub returns : goal.returns
returns c = sym (ap (before c.args.chain) (eight_are _ c.args.blocks (search rules)))
