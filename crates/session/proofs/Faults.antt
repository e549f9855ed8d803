-- What a `?` returns.
use Rattle.std.proofs.Common.{◌≡◌, Ok, Err, Result, ap}
use Rattle.std.specs.Result.{IsErrAnd}

pub fault : {T E : Type 0} {f : E} (r : Result T E) → IsErrAnd r (λ e. e ≡ f) → r ≡ Err f
fault (Ok x) h = absurd h
fault (Err e) h = ap Err h
