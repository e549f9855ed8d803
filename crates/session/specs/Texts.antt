-- What is written of answers and their tally.
--   shown_block b     the digits of a block
--   shown_answer a    the text of an answer
--   shown_tally t     the account that a tally gives
use Rattle.std.specs.Prelude.{ℕ, List, ◌∷◌, ◌++◌, codes, decimal}
use Rattle.std.specs.String.{string_bytes}
use Rattle.cipher.specs.declared.block.Block as block
use Rattle.cipher.specs.Bytes.{bytes_of}
use Rattle.hex_digits.specs.Digits.{spelled}
use Rattle.refusal.specs.Refusals.{number_of, reason_of}
use Rattle.script.specs.Reasons.{why_of}
use Rattle.session.specs.declared.answer.Answer.{Answer}
use Rattle.session.specs.declared.answer.Answer.TheVariants.{Accepted, Refused, Unreadable}
use Rattle.session.specs.declared.answer.Value.TheVariants.{Nothing, Code, Block, Text}
use Rattle.session.specs.declared.tally.Tally.{Tally}
use Rattle.session.specs.Tallies.{called}

abbrev pub shown_block : block.Block → List ℕ
shown_block b = spelled (bytes_of b)

abbrev pub shown_answer : Answer → List ℕ
shown_answer (Accepted Nothing) = codes "accepted"
shown_answer (Accepted (Code n)) = codes "accepted " ++ decimal n
shown_answer (Accepted (Text b w)) = codes "accepted " ++ (shown_block b ++ (32 ∷ string_bytes w))
shown_answer (Accepted (Block b)) = codes "accepted " ++ shown_block b
shown_answer (Refused e) = codes "refused " ++ (decimal (number_of e) ++ (32 ∷ reason_of e))
shown_answer (Unreadable u) = codes "unreadable, " ++ why_of u

abbrev pub shown_tally : Tally → List ℕ
shown_tally t =
    codes "account: " ++ (decimal (called t) ++ (codes " calls, " ++ (decimal t.accepted ++ (codes " accepted, " ++ (decimal t.refused
    ++ (codes " refused; " ++ (decimal t.unreadable ++ codes " lines unreadable")))))))
