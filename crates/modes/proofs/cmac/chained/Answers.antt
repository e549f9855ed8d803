use Rattle.std.proofs.Common.{◌≡◌, ◌-◌, ◌*◌, ◌/◌, ◌≤◌, [], ◌∷◌, ◌++◌, map, take, drop, get_or, length, sym, ap, ◌∙◌, arith}
use Rattle.std.proofs.lemmas.List.{map_more, take_all, length-take-le}
use Rattle.std.specs.Simd.{first_chunks}
use Rattle.cipher.specs.declared.block.Block.{Block}
use Rattle.cipher.specs.Bytes.{block_of}
use Rattle.modes.specs.declared.mode.Mode.TheVariants.{Cbc}
use Rattle.modes.specs.Layout.{cut}
use Rattle.modes.specs.Formulas.{forward, after}
use Rattle.modes.specs.Cmac.{zeros, doubled, last_block}
use Rattle.modes.proofs.Marks.{chunks_hold, cut_front, chain_more}
use Rattle.modes.proofs.cmac.chained.Goals as goal

pub loop-bytes-preserved : goal.loop-bytes-preserved
loop-bytes-preserved g c =
    let E = g.C.BlockCipher.enc c.args.cipher.now in
    let i = c.loop-bytes.bytes-index in
    let blocks = c.as_chunks.result.0.now in
    let more = chain_more E zeros c.loop-bytes.chain c.encipher-chain.result (map block_of (take i blocks)) c.from.result c.loop-bytes.invariant
    (c.encipher-chain.ensures ∙ ap E c.bitxor.ensures) in
    let held : c.from.result ≡ block_of (get_or blocks i []) = c.from.ensures.0 in
    more ∙ ap (after (forward Cbc E) zeros) (ap (λ (b : Block). map block_of (take i blocks) ++ b ∷ []) held ∙ sym (map_more block_of blocks i [] c.loop-bytes-test.true))

pub returns : goal.returns
returns g c =
    let E = g.C.BlockCipher.enc c.args.cipher.now in
    let text = c.args.text.now in
    let blocks = c.as_chunks.result.0.now in
    let n = (length text - 1) / 8 in
    let f = forward Cbc E in
    let front : c.split_at.result.0.now ≡ take (n * 8) text = c.split_at.ensures.front ∙ ap (λ k. take (k / 8 * 8) text) c.saturating_sub.ensures in
    let last : c.split_at.result.1.now ≡ drop (n * 8) text = c.split_at.ensures.back ∙ ap (λ k. drop (k / 8 * 8) text) c.saturating_sub.ensures in
    let short : n * 8 ≤ length text = omega arith in
    let count : length c.split_at.result.0.now / 8 ≡ n = omega (arith, ap length front, length-take-le (n * 8) text short) in
    let held : map block_of blocks ≡ cut n text
    = ap (map block_of) c.as_chunks.ensures.front ∙ ap (λ k. map block_of (first_chunks 8 k c.split_at.result.0.now)) count
    ∙ chunks_hold n c.split_at.result.0.now (omega (arith, count)) ∙ ap (cut n) front ∙ cut_front n text short in
    let chain : c.loop-bytes.chain ≡ after f zeros (cut n text)
    = c.loop-bytes.invariant ∙ ap (λ bs. after f zeros (map block_of bs)) (take_all c.loop-bytes.bytes-index blocks c.loop-bytes-test.false) ∙ ap (after f zeros) held in
    let key : c.twice-k1.result ≡ doubled (E zeros) = c.twice-k1.ensures ∙ ap doubled c.encipher.ensures in
    chain_more E zeros c.loop-bytes.chain c.encipher-2.result (cut n text) c.keyed_last.result chain (c.encipher-2.ensures ∙ ap E c.bitxor-2.ensures)
    ∙ ap (λ b. after f zeros (cut n text ++ b ∷ [])) (c.keyed_last.ensures ∙ ap (λ k. last_block k (doubled k) c.split_at.result.1.now) key ∙ ap (last_block (doubled (E zeros)) (doubled (doubled (E zeros)))) last)
