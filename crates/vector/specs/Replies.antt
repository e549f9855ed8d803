-- What is written for a line.
--   digits_or_hyphen d    the digits, or a hyphen where there are none
--   reply_bytes r         the bytes of a reply
use Rattle.std.specs.Prelude.{ℕ, List, Option, Some, None}
use Rattle.vector.specs.declared.reply.Reply.{Reply}
use Rattle.vector.specs.Lines.{hyphen}

abbrev pub digits_or_hyphen : Option (List ℕ) → List ℕ
digits_or_hyphen (Some digits) = digits
digits_or_hyphen None = hyphen

abbrev pub reply_bytes : Reply → List ℕ
reply_bytes r = digits_or_hyphen r.ciphertext
