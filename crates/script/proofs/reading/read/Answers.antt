use Rattle.std.proofs.Common.{◌∷◌, ap, ◌∙◌, rules}
use Rattle.std.proofs.lemmas.Result.{err_from_is_err_and}
use Rattle.script.specs.Calls.Wrong.{unknown, misformed}
use Rattle.script.specs.Words.{words}
use Rattle.script.proofs.Misreading.{call_fault}
use Rattle.script.proofs.reading.read.Goals as goal

pub returns-in_err-verb : goal.returns-in_err-verb
returns-in_err-verb c =
    let p = err_from_is_err_and c.from_residual.result c.from_residual.ensures.1 in
    let v = c.in_err-verb.ensures in
    rw (p.1, p.2) (unknown _ _ c.in-Some.ensures v.1 v.0)

pub returns-in_err-call : goal.returns-in_err-call
returns-in_err-call c =
    let p = err_from_is_err_and c.from_residual-in_err-call.result c.from_residual-in_err-call.ensures.1 in
    let v = c.in_ok-verb.ensures in
    let f = call_fault c.after.result c.map_err.result c.in_ok-verb.verb (words c.in-Some.rest.now) _ c.in_err-call.was c.map_err.ensures.cases
    (λ m y k. search rules) c.after.ensures in
    rw (p.1, p.2) (misformed c.in_ok-verb.verb (words c.in-Some.rest.now) (c.in-Some.ensures ∙ ap (λ w. w ∷ words c.in-Some.rest.now) v) f)
