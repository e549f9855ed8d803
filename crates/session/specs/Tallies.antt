-- How many lines came to what.
--   more n         one more, up to the most that 64 bits hold
--   counted a t    the tally t with the answer a counted in
--   called t       how many calls t counts: a line that is no call is none
use Rattle.std.specs.Prelude.{ℕ, ◌+◌, ◌-◌, ◌^◌, min}
use Rattle.session.specs.declared.answer.Answer.{Answer}
use Rattle.session.specs.declared.answer.Answer.TheVariants.{Accepted, Refused, Unreadable}
use Rattle.session.specs.declared.tally.Tally.{Tally}

abbrev pub more : ℕ → ℕ
more n = min (n + 1) (2 ^ 64 - 1)

abbrev pub counted : Answer → Tally → Tally
counted (Accepted v) t = record { accepted = more t.accepted; refused = t.refused; unreadable = t.unreadable }
counted (Refused e) t = record { accepted = t.accepted; refused = more t.refused; unreadable = t.unreadable }
counted (Unreadable u) t = record { accepted = t.accepted; refused = t.refused; unreadable = more t.unreadable }

abbrev pub called : Tally → ℕ
called t = min (t.accepted + t.refused) (2 ^ 64 - 1)
