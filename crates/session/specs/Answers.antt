-- Answers to calls.
--   answer_of r    what is answered, where r is what a call comes to
use Rattle.std.specs.Prelude.{Ok, Err, Result}
use Rattle.session.specs.declared.answer.Answer.{Answer}
use Rattle.session.specs.declared.answer.Answer.TheVariants as answer
use Rattle.session.specs.declared.answer.Value.{Value}
use Rattle.session.specs.declared.fault.Fault.{Fault}
use Rattle.session.specs.declared.fault.Fault.TheVariants as fault

abbrev pub answer_of : Result Value Fault → Answer
answer_of (Ok v) = answer.Accepted v
answer_of (Err (fault.Refused e)) = answer.Refused e
answer_of (Err (fault.Unreadable u)) = answer.Unreadable u
