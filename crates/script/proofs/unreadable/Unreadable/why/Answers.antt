-- The search breaks off at long texts.
use Rattle.std.proofs.Common.{sym, ap}
use Rattle.script.specs.Reasons.{why_of}
use Rattle.script.proofs.unreadable.Unreadable.why.Goals as goal

pub returns-in-UnknownVerb : goal.returns-in-UnknownVerb
returns-in-UnknownVerb c = ap why_of (sym c.in-UnknownVerb.is)
