use Rattle.std.proofs.Common.{◌≡◌, length, set, vec_items, ap, ◌∙◌, arith}
use Rattle.std.proofs.lemmas.List.{length-map, map-set}
use Rattle.session.specs.Views.{entry_of, meaning, standing}
use Rattle.session.proofs.Entries.{entry_at}
use Rattle.session.proofs.Loading.{restood_at}
use Rattle.session.proofs.ciphers.Ciphers.stand.Goals as goal

pub returns-in-Some : goal.returns-in-Some
returns-in-Some c =
    let items = vec_items c.args.self.now.entries in
    let s = standing c.args.self.now in
    let i = c.in-Some.i in
    let x = c.index_mut.result.now in
    let at = c.in-Some.ensures in
    let long : length s ≡ length items = length-map items entry_of in
    map-set entry_of items i _
    ∙ ap (λ e. set s i (e.0, meaning c.args.cipher)) (entry_at items i x (omega (arith, long, at.within)) c.index_mut.ensures.value)
    ∙ restood_at c.args.name.now s i (entry_of x) (meaning c.args.cipher) at
