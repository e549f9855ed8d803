use Rattle.std.proofs.Common.{Ok, Option, refl, subst}
use Rattle.script.specs.declared.call.Call.{Call}
use Rattle.script.specs.Calls.{verb_of, args_of, Reads}
use Rattle.script.specs.Words.{words}
use Rattle.session.specs.Lines.Carried.{called, no_call}
use Rattle.session.proofs.ciphers.Ciphers.heed.Goals as goal

pub returns-in_ok-said-in-Ok : goal.returns-in_ok-said-in-Ok
returns-in_ok-said-in-Ok c =
    let call = c.in_ok-said-in-Ok.field-0 in
    let says = subst (λ (o : Option Call). Reads (words c.args.line.now) (Ok o)) c.in_ok-said-in-Ok.was c.in-Ok.ensures in
    rw c.from.ensures (called (verb_of call) (args_of call) says.0 says.1 c.perform.ensures)

pub returns-in-Err : goal.returns-in-Err
returns-in-Err c = no_call _ c.in-Err.ensures refl refl
