use Rattle.std.proofs.Common.{◌≡◌, ◌+◌, ◌*◌, ◌∙◌, [], length, map, slice_index, slice_index_or, ap, rules, add-one}
use Rattle.std.proofs.lemmas.List.{length-map as map_keeps}
use Rattle.blowfish.specs.declared.tables.TheConstants.{PAIRS}
use Rattle.blowfish.specs.Blowfish.{pword, begun, turned, exchanged}
use Rattle.blowfish.proofs.Maps.{mapped}
use Rattle.blowfish.proofs.Turns.{first_word, second_word, gone, next_pair, closed}
use Rattle.blowfish.proofs.tables.Blowfish.forward.Goals as goal

pub loop-odd-init : goal.loop-odd-init
loop-odd-init g c =
    let t = c.args.self.now in
    let l = slice_index (slice_index_or t.p 0 []) 0 in
    let r = slice_index (slice_index_or t.p 0 []) 1 in
    let e : l ≡ pword t 0 = search rules in
    let h : r ≡ pword t 1 = search rules in
    mapped _ (λ p. (p.0.now ≡ l) × (p.1.now ≡ r)) (begun l r) (λ p q x y s called. ((search rules, search rules), search rules)) _ _ _ _
    (search rules, search rules) (search rules) c.map-blocks.ensures.items
    ∙ ap (λ w. map (begun w r) c.args.blocks) e ∙ ap (λ w. map (begun (pword t 0) w) c.args.blocks) h

pub loop-odd-preserved : goal.loop-odd-preserved
loop-odd-preserved g c =
    let t = c.args.self.now in
    let j = c.loop-odd.odd-index in
    let u = slice_index (slice_index_or t.p (j + 1) []) 0 in
    let v = slice_index (slice_index_or t.p (j + 1) []) 1 in
    let e : u ≡ pword t (2 * (j + 1)) = first_word t (j + 1) (search rules) in
    let h : v ≡ pword t (2 * (j + 1) + 1) = second_word t (j + 1) (search rules) in
    let long = ap length c.loop-odd.invariant ∙ map_keeps c.args.blocks (gone t j) in
    mapped _ (λ p. (p.0.now ≡ t) × (p.1.now ≡ u) × (p.2.now ≡ v)) (λ b. turned t v (turned t u b))
    (λ p q x y s called. ((search rules, search rules, search rules), search rules)) _ c.loop-odd.blocks _ _
    (search rules, search rules, search rules) (long ∙ search rules) c.map-blocks-in-loop-odd.ensures.items
    ∙ next_pair t j (j + 1) u v c.args.blocks c.loop-odd.blocks (add-one j) e h c.loop-odd.invariant

pub returns : goal.returns
returns g c =
    let t = c.args.self.now in
    let e : c.loop-odd.odd-index ≡ PAIRS = search rules in
    let long = ap length c.loop-odd.invariant ∙ map_keeps c.args.blocks (gone t c.loop-odd.odd-index) in
    mapped _ (λ p. p ≡ p) exchanged (λ p q x y s called. (search rules, search rules)) _ c.loop-odd.blocks _ _
    (search rules) (long ∙ search rules) c.map.ensures.items ∙ closed t c.args.blocks c.loop-odd.blocks _ PAIRS e c.loop-odd.invariant
