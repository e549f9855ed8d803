use Rattle.std.proofs.Common.{◌≡◌, length, Some, vec_items, sym, ap, ◌∙◌, arith}
use Rattle.std.proofs.lemmas.List.{length-map}
use Rattle.session.specs.Views.{entry_of, standing}
use Rattle.session.proofs.Entries.{entry_at}
use Rattle.session.proofs.ciphers.Ciphers.named.Goals as goal

pub returns : goal.returns
returns c =
    let entries = c.args.self.now.entries in
    let long : length (standing c.args.self.now) ≡ length (vec_items entries) = length-map (vec_items entries) entry_of in
    let x = c.index.result.now in
    ap (λ e. Some e.1) (entry_at (vec_items entries) c.in_ok-i.i x (omega (arith, long, c.in_ok-i.ensures.within)) c.index.ensures)
    ∙ sym (c.in_ok-i.ensures.found (entry_of x))
