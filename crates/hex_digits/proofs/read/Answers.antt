use Rattle.std.proofs.Common.{◌≤◌, [], length, sym, refl, ap, ◌∙◌, subst, arith}
use Rattle.std.specs.List.{flat_map}
use Rattle.std.proofs.lemmas.List.{take_all}
use Rattle.cipher.specs.Bytes.{Bytes}
use Rattle.hex_digits.specs.Digits.{spelled}
use Rattle.hex_digits.proofs.Spelling.{read_more, bytes-more, unspelt_length, unspelt_pair, flat_pairs}
use Rattle.hex_digits.proofs.read.Goals as goal
use Rattle.hex_digits.proofs.read.Goals.{then-pairs-bytes-via-then-pairs-bytes, then-pairs-bytes-via-else-pairs-bytes+then-not-all_bytes}

pub returns-in_default : goal.returns-in_default
returns-in_default c = (unspelt_length _ c.args.digits.now (λ e. omega (arith, e)), refl)

pub returns-then-pairs-bytes : goal.returns-then-pairs-bytes
returns-then-pairs-bytes c = (
  elim c.then-pairs-bytes.branch [
    | then-pairs-bytes-via-then-pairs-bytes w ↦ unspelt_length _ c.args.digits.now (λ e. omega (arith, e))
    | then-pairs-bytes-via-else-pairs-bytes+then-not-all_bytes w ↦
        let other = w.if-not-all_bytes.ensures in
        unspelt_pair _ c.args.digits.now _ other.0 c.as_chunks.ensures.front (omega arith) (omega (arith, other.1)) (other.2 [])
  ],
  refl,
)

pub loop-i-init : goal.loop-i-init
unfolding spelled
loop-i-init c = (refl, tt)

pub byte_of-requires : goal.byte_of-requires
byte_of-requires c = c.if-not-all_bytes.ensures c.loop-i.i [] (omega arith) (omega arith)

pub loop-i-preserved : goal.loop-i-preserved
loop-i-preserved c = (
  read_more c.as_chunks.result.0.now c.loop-i.bytes c.loop-i.i c.byte_of.result (omega arith) (omega arith) c.byte_of.ensures c.loop-i.invariant.0,
  bytes-more c.loop-i.bytes c.loop-i.i c.byte_of.result (omega arith) (omega arith) c.loop-i.invariant.1,
)

pub returns : goal.returns
returns c =
    let n : length c.loop-i.bytes ≤ c.loop-i.i = omega arith in
    let m : length c.as_chunks.result.0.now ≤ c.loop-i.i = omega arith in
    let whole = take_all c.loop-i.i c.loop-i.bytes n in (
      sym (ap spelled whole) ∙ c.loop-i.invariant.0 ∙ ap (flat_map (λ x. x)) (take_all c.loop-i.i c.as_chunks.result.0.now m ∙ c.as_chunks.ensures.front)
          ∙ flat_pairs _ c.args.digits.now (omega arith),
      subst Bytes whole c.loop-i.invariant.1,
    )
