use Rattle.std.proofs.Common.{refl}
use Rattle.session.specs.Calls.Loads.{unkeyed}
use Rattle.session.proofs.Faults.{fault}
use Rattle.session.proofs.ciphers.Ciphers.load.Goals as goal

pub returns-in_err-cipher : goal.returns-in_err-cipher
returns-in_err-cipher c =
    rw (fault c.from_residual.result c.from_residual.ensures.1) (unkeyed _ c.in_err-cipher.ensures refl refl)
