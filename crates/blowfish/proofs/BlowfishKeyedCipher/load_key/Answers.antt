use Rattle.std.proofs.Common.{◌≡◌, refl, ap, ◌∙◌}
use Rattle.blowfish.specs.Blowfish.{enciphered, deciphered}
use Rattle.blowfish.specs.Schedule.{initial, scheduled}
use Rattle.blowfish.proofs.BlowfishKeyedCipher.load_key.Goals as goal

pub returns : goal.returns
returns c =
    let e : c.schedule.new.self ≡ scheduled initial c.args.key.now
    = c.schedule.ensures ∙ ap (λ t. scheduled t c.args.key.now) c.new.ensures in
    record { loads = (c.if-not-lawful.ensures, ap enciphered e, ap deciphered e); stays = (λ n. (λ h. h, λ h. h), refl, refl) }
