use Rattle.std.proofs.Common.{ℕ, ◌≡◌, length, replicate, subst, arith, ◌∷◌, ◌++◌, sym, ap, ◌∙◌, rules}
use Rattle.std.proofs.lemmas.Result.{MatchResult-at_ok, MatchResult-at_err}
use Rattle.hex_digits.specs.Digits.{spelled, Unspelt}
use Rattle.vector.proofs.Lines.{foreign_whole, foreign_block, foreign_key, succeeded, refused, serves_foreign, serves_vector}
use Rattle.vector.proofs.under.Goals as goal

pub returns-in_err-digits : goal.returns-in_err-digits
returns-in_err-digits g c = rw c.from_residual.ensures (serves_foreign _ _ _ (foreign_whole _ _ c.in_err-digits.ensures))

pub returns-in_err-block : goal.returns-in_err-block
returns-in_err-block g c =
    rw c.from_residual-in_err-block.ensures (serves_foreign _ _ _ (foreign_block _ _ _ _ c.in_ok-digits.ensures c.in_err-block.ensures))

pub returns-in_err-ok : goal.returns-in_err-ok
returns-in_err-ok g c =
    let e = refused c.read.result c.in_err-ok.ensures.value in
    let none = MatchResult-at_err _ _ e.0 e.1 c.read.ensures in
    let long : length (replicate g.row.N 0) ≡ g.row.N = omega arith in
    rw c.from_residual-in_err-ok.ensures
    (serves_foreign _ _ _ (foreign_key g.row.N _ _ _ c.in_ok-digits.ensures (let U : ℕ → Type 0 = λ m. Unspelt m c.in_ok-digits.digits.now in subst U long none.0)))

pub returns : goal.returns
returns g c =
    let key = MatchResult-at_ok _ _ _ (succeeded c.read.result _ c.in_ok-ok.ensures.value) c.read.ensures in
    let block = rw (succeeded c.encipher_under.result _ c.in_ok-enciphered.ensures.value) at c.encipher_under.ensures.answers in
    serves_vector _ _ _ c.read.new.bytes c.in_ok-block.block c.in_ok-enciphered.enciphered _
    (
    record {
      bytes = key.1;
      long = search rules;
      sound = search rules;
      written = c.in_ok-digits.ensures.1 ∙ ap (λ xs. xs ++ (32 ∷ c.in_ok-digits.text.now)) (sym key.0)
          ∙ ap (λ xs. spelled c.read.new.bytes ++ (32 ∷ xs)) (sym c.in_ok-block.ensures);
    }
    )
    block.1 (search rules)
