use Rattle.std.proofs.Common.{◌∙◌, sym, ap, length, get_or, ◌/◌, ◌%◌, [], ◌∷◌, ◌≡◌, ◌<◌, arith, rules, ◌*◌}
use Rattle.std.proofs.lemmas.Grind.{same_number_lists}
use Rattle.hex_digits.specs.Digits.{spelled}
use Rattle.hex_digits.proofs.Spelling.{length-spelled, spelled_at}
use Rattle.hex_digits.proofs.spell_block.Goals as goal

pub returns : goal.returns
returns c =
    let b = c.into-bytes.result in
    let l = length-spelled b ∙ ap (λ n. 2 * n) (ap length c.into-bytes.ensures.0) in
    same_number_lists c.from_fn.result (spelled b) (c.from_fn.ensures.items.long ∙ sym l)
    (λ k h.
    let i : k < 16 = omega (arith, h, c.from_fn.ensures.items.long) in
    let t = c.from_fn.ensures.items.at k 0 i in
    let s = c.map-pairs.ensures.items.at (k / 2) 0 [] (omega arith) in
    let m : get_or c.map-pairs.result (k / 2) [] ≡ spelled (get_or b (k / 2) 0 ∷ []) = search (rules, s.2) in
    let u : get_or c.from_fn.result k 0 ≡ get_or (get_or c.map-pairs.result (k / 2) []) (k % 2) 0 = search (rules, t.2) in
    u ∙ ap (λ xs. get_or xs (k % 2) 0) m ∙ spelled_at b k (omega (arith, h, c.from_fn.ensures.items.long, l)))
    ∙ ap spelled c.into-bytes.ensures.0
