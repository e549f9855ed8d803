-- What the session's own steps come to.
--   Making s m r     r is the cipher that is made of m, or why none is
--   restood n m s    s, but that n stands for m if it stands for something
use Rattle.std.specs.Prelude.{◌≡◌, ℕ, cond, List, is_some, Ok, Err, Result}
use Rattle.chosen.specs.Kinds.{Chosen}
use Rattle.script.specs.declared.unreadable.Unreadable as why
use Rattle.script.specs.Calls as script
use Rattle.session.specs.Calls.{made}
use Rattle.session.specs.State.{Meaning, State, find, put}
use Rattle.session.specs.Views.{meaning}

abbrev pub Making : State → script.Making → Result Chosen why.Unreadable → Type 0
Making s m (Ok c) = made s m ≡ Ok (meaning c)
Making s m (Err u) = made s m ≡ Err u

abbrev pub restood : List ℕ → Meaning → State → State
restood n m s = cond (is_some (find n s)) (put n m s) s
