-- The search breaks off at long texts.
use Rattle.std.proofs.Common.{sym, ap}
use Rattle.script.specs.Verbs.{usage_of}
use Rattle.script.proofs.verb.Verb.usage.Goals as goal

pub returns-in-Cipher : goal.returns-in-Cipher
returns-in-Cipher c = ap usage_of (sym c.in-Cipher.is)

pub returns-in-Encipher : goal.returns-in-Encipher
returns-in-Encipher c = ap usage_of (sym c.in-Encipher.is)

pub returns-in-Decipher : goal.returns-in-Decipher
returns-in-Decipher c = ap usage_of (sym c.in-Decipher.is)
