use Rattle.std.proofs.Common.{◌≡◌, ◌-◌, false, true, length, take, drop, rules, tests}
use Rattle.std.proofs.lemmas.Iterator.{IsFirst-from_position, YieldsList-from_slice}
use Rattle.std.proofs.lemmas.List.{take_rest}
use Rattle.std.proofs.lemmas.Option.{MatchOption-at_none, MatchOption-at_some}
use Rattle.script.specs.Words.{blank, solid}
use Rattle.script.proofs.Cutting.{words_blanks, run_of, word_none, word_first}
use Rattle.script.proofs.words.word.Goals as goal

pub returns-in_err-start : goal.returns-in_err-start
returns-in_err-start c =
    let p = IsFirst-from_position _ _ _ (λ x. blank x ≡ false) (λ x. blank x ≡ true) c.position.ensures.ran (YieldsList-from_slice c.args.line.now cc)
    (λ x q k. search (rules, tests)) (λ x q k. search (rules, tests)) in
    rw c.from_residual.ensures (words_blanks c.args.line.now (MatchOption-at_none _ _ c.in_err-start.was p))

pub returns-then-length-eq0 : goal.returns-then-length-eq0
returns-then-length-eq0 c =
    let line = c.args.line.now in
    let start = c.in_ok-start.start in
    let rest = take (length line - start) (drop start line) in
    let p = IsFirst-from_position _ _ _ (λ x. blank x ≡ false) (λ x. blank x ≡ true) c.position.ensures.ran (YieldsList-from_slice line cc)
    (λ x q k. search (rules, tests)) (λ x q k. search (rules, tests)) in
    let s = IsFirst-from_position _ _ _ (λ x. solid x ≡ false) (λ x. solid x ≡ true) c.position-2.ensures.ran (YieldsList-from_slice rest cc)
    (λ x q k. search (rules, tests)) (λ x q k. search (rules, tests)) in
    word_none line rest start (take_rest line start) (MatchOption-at_some _ _ _ c.in_ok-start.was p) c.unwrap_or-length.result c.if-length-eq0.true
    (rw c.unwrap_or-length.ensures (run_of c.position-2.result rest s))

pub returns : goal.returns
returns c =
    let line = c.args.line.now in
    let start = c.in_ok-start.start in
    let rest = take (length line - start) (drop start line) in
    let p = IsFirst-from_position _ _ _ (λ x. blank x ≡ false) (λ x. blank x ≡ true) c.position.ensures.ran (YieldsList-from_slice line cc)
    (λ x q k. search (rules, tests)) (λ x q k. search (rules, tests)) in
    let s = IsFirst-from_position _ _ _ (λ x. solid x ≡ false) (λ x. solid x ≡ true) c.position-2.ensures.ran (YieldsList-from_slice rest cc)
    (λ x q k. search (rules, tests)) (λ x q k. search (rules, tests)) in
    rw (c.split_at.ensures.front, c.split_at.ensures.back)
    (word_first line rest start (take_rest line start) (MatchOption-at_some _ _ _ c.in_ok-start.was p) c.unwrap_or-length.result c.if-length-eq0.false
    (rw c.unwrap_or-length.ensures (run_of c.position-2.result rest s)))
