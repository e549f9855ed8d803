use Rattle.std.proofs.Common.{◌≡◌, ◌+◌, ◌*◌, ◌∙◌, [], length, map, map-id, slice_index, slice_index_or, ap, sym, rules, arith}
use Rattle.std.proofs.lemmas.Grind.{common_steps}
use Rattle.std.proofs.lemmas.List.{length-map as map_keeps}
use Rattle.cipher.specs.Rounds.{unrounds}
use Rattle.blowfish.specs.declared.tables.TheConstants.{PAIRS}
use Rattle.blowfish.specs.Blowfish.{pword, begun, exchanged, odd_back_of, even_back_of, pair_back}
use Rattle.blowfish.proofs.Maps.{mapped}
use Rattle.blowfish.proofs.Turns.{first_word, second_word, popped, pair_undone, opened}
use Rattle.blowfish.proofs.tables.Blowfish.backward.Goals as goal

pub loop-odd-init : goal.loop-odd-init
loop-odd-init g c =
    let t = c.args.self.now in
    let l = slice_index (slice_index_or t.p PAIRS []) 0 in
    let r = slice_index (slice_index_or t.p PAIRS []) 1 in
    let e : l ≡ pword t (2 * PAIRS) = first_word t PAIRS (search rules) in
    let h : r ≡ pword t (2 * PAIRS + 1) = second_word t PAIRS (search rules) in
    let m = mapped _ (λ p. (p.0.now ≡ l) × (p.1.now ≡ r)) (λ b. begun l r (exchanged b)) (λ p q x y s called. ((search rules, search rules), search rules)) _ _ _ _
    (search rules, search rules) (search rules) c.map-blocks.ensures.items
    ∙ ap (λ w. map (λ b. begun w r (exchanged b)) c.args.blocks) e ∙ ap (λ w. map (λ b. begun (pword t (2 * PAIRS)) w (exchanged b)) c.args.blocks) h in
    let all : length c.into_iter-odd-iterator.result.iter.rest.now ≡ PAIRS = grind (arith, common_steps) in
    (grind (arith, common_steps), omega (arith, all), ap length m ∙ map_keeps c.args.blocks _, ap (λ k. map (unrounds (pair_back t) k) c.map-blocks.result) all ∙ opened t PAIRS c.args.blocks _ m)

pub loop-odd-preserved : goal.loop-odd-preserved
loop-odd-preserved g c =
    let t = c.args.self.now in
    let left = c.next.new.self.iter.rest.now in
    let p = popped t.p c.loop-odd.odd-iterator.iter.rest.now left c.in-Some.field-0.now c.in-Some.ensures.steps c.loop-odd.invariant.0 in
    let n = length left in
    let u = slice_index c.in-Some.field-0.now 0 in
    let v = slice_index c.in-Some.field-0.now 1 in
    let e : u ≡ pword t (2 * n) = ap (λ w. slice_index w 0) p.2 ∙ first_word t n (search rules) in
    let h : v ≡ pword t (2 * n + 1) = ap (λ w. slice_index w 1) p.2 ∙ second_word t n (search rules) in
    let m = mapped _ (λ p. (p.0.now ≡ t) × (p.1.now ≡ u) × (p.2.now ≡ v)) (λ b. odd_back_of t u (even_back_of t v b))
    (λ p q x y s called. ((search rules, search rules, search rules), search rules)) _ c.loop-odd.blocks _ _
    (search rules, search rules, search rules) (c.loop-odd.invariant.2 ∙ search rules) c.map-blocks-in-loop-odd.ensures.items in
    (p.1, omega (arith, p.0, c.loop-odd.invariant.1), ap length m ∙ map_keeps c.loop-odd.blocks _ ∙ c.loop-odd.invariant.2, ap (map _) m ∙ pair_undone t n _ u v c.loop-odd.blocks _ p.0 e h c.loop-odd.invariant.3)

pub returns : goal.returns
returns g c =
    let t = c.args.self.now in
    let e : length c.loop-odd.odd-iterator.iter.rest.now ≡ 0 = c.in-None.ensures.steps.0 in
    sym (map-id c.loop-odd.blocks) ∙ ap (λ k. map (unrounds (pair_back t) k) c.loop-odd.blocks) (sym e) ∙ c.loop-odd.invariant.3
