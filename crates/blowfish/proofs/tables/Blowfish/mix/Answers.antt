use Rattle.std.proofs.Common.{◌≡◌, ◌*◌, ◌<◌, [], length, ap, ◌∙◌, slice_index_or, rules, arith}
use Rattle.cipher.specs.Rounds.{rounds}
use Rattle.blowfish.specs.Schedule.{mix_word, mixed}
use Rattle.blowfish.proofs.Filling.{table, mixed_pair}
use Rattle.blowfish.proofs.tables.Blowfish.mix.Goals as goal

pub loop-i-preserved : goal.loop-i-preserved
loop-i-preserved c =
    let two : length (slice_index_or c.loop-i.pair-items c.loop-i.i []) ≡ 2 = search rules in
    let at : c.loop-i.i < length c.loop-i.pair-items = omega (arith, c.loop-i.invariant.1, c.loop-i-test.true) in (
      mixed_pair c.args.key.now c.args.self.now.p c.loop-i.pair-items c.loop-i.i _ _ at two c.key_word.ensures
          c.key_word-in-loop-i.ensures c.loop-i.invariant.0,
      search rules,
    )

pub returns : goal.returns
unfolding mixed
returns c =
    let e : 2 * c.loop-i.i ≡ 18 = omega arith in
    table _ _ _ (c.loop-i.invariant.0 ∙ ap (λ k. rounds (mix_word c.args.key.now) k c.args.self.now.p) e) (search rules)
