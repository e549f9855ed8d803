use Rattle.std.proofs.Common.{refl}
use Rattle.session.proofs.ModeNames.{mode_utf8}
use Rattle.session.proofs.texts.mode_named.Goals as goal

pub returns-in-Err : goal.returns-in-Err
returns-in-Err c = (refl, λ m e. c.in-Err.ensures.cases.0 (mode_utf8 m c.args.word.now e))
