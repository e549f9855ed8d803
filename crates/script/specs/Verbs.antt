-- The words that calls begin with.
--   verb_word v   the word of a verb
--   NoVerb w      w is the word of no verb
--   usage_of v    how a call of the verb is written, for people
use Rattle.std.specs.Prelude.{ℕ, List, codes, ◌≢◌}
use Rattle.script.specs.declared.verb.Verb.{Verb}
use Rattle.script.specs.declared.verb.Verb.TheVariants.{Cipher, Load, Encipher, Decipher, Mode, Tag}

abbrev pub verb_word : Verb → List ℕ
verb_word Cipher = codes "cipher"
verb_word Load = codes "load"
verb_word Encipher = codes "encipher"
verb_word Decipher = codes "decipher"
verb_word Mode = codes "mode"
verb_word Tag = codes "tag"

abbrev pub NoVerb : List ℕ → Type 0
NoVerb w = (v : Verb) → w ≢ verb_word v

abbrev pub usage_of : Verb → List ℕ
usage_of Cipher = codes "write cipher NAME blowfish, cipher NAME xtea or cipher NAME triple A B C"
usage_of Load = codes "write load NAME KEY"
usage_of Encipher = codes "write encipher NAME BLOCK or encipher NAME MODE START TEXT"
usage_of Decipher = codes "write decipher NAME BLOCK or decipher NAME MODE START TEXT"
usage_of Mode = codes "write mode NAME"
usage_of Tag = codes "write tag NAME TEXT"
