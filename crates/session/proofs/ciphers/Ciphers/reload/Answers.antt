use Rattle.std.proofs.Common.{refl, ap, ◌∙◌}
use Rattle.cipher.specs.declared.one_of.OneOf.TheVariants.{First as One}
use Rattle.session.specs.Calls.Loads.{refused, loads}
use Rattle.session.specs.State.{put}
use Rattle.session.specs.Views.{meaning, standing}
use Rattle.session.proofs.Faults.{fault}
use Rattle.session.proofs.Loading.{loaded_as, restood_keyed}
use Rattle.session.proofs.ciphers.Ciphers.reload.Goals as goal

pub returns-in_err-load : goal.returns-in_err-load
returns-in_err-load c =
    let h = c.in_err-load.ensures.loads in
    rw (fault c.from_residual.result c.from_residual.ensures.1) (refused (meaning (One c.args.cipher)) _ c.requires h.1 refl h.0 refl)

pub returns : goal.returns
returns c =
    let h = c.in_ok-load.ensures.loads in
    let n = c.args.name.now in
    let s = standing c.args.self.now in
    loads (meaning (One c.args.cipher)) c.requires h.0.0 refl
    (c.stand.ensures ∙ restood_keyed n s (meaning (One c.args.cipher)) (meaning (One c.load.new.cipher)) c.requires
    ∙ ap (λ x. put n x s) (loaded_as c.args.cipher c.load.new.cipher c.args.key.now h.0.1 h.0.2 h.1))
