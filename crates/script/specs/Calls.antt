-- How calls are written.
--   Making                what a cipher is made as; making_words are the words that say it, NoMaking that none does
--   bytes_word bs         bytes as a word: capital hexadecimal digits, or a hyphen for none
--   Working               what is enciphered or deciphered; working_words are the words that say it
--   Args v                what a call of the verb is about
--   arg_words v a         the words that say it
--   Lawful v a            its bytes are bytes, its block is one
--   verb_of c, args_of c  a call's verb, and what it is about
--   Says ws c             the words ws are the call c
--   Said                  what is read off words
--   Fault v ws e          why the words ws after the verb v are no call
--   fault_of v m          what is said of words after the verb v that are not read
--   Takes v ws r          r is what is read off the words ws after the verb v
--   Reads ws r            r is what is read off the words of a line
use Rattle.std.specs.Prelude.{◌≡◌, ℕ, List, [], ◌∷◌, Some, None, Ok, Err, vec_items, codes, Option, Result, ◌≢◌}
use Rattle.cipher.specs.declared.block.Block.{Block}
use Rattle.cipher.specs.Blocks.{Sound}
use Rattle.cipher.specs.Bytes.{Bytes, bytes_of}
use Rattle.hex_digits.specs.Digits.{spelled}
use Rattle.script.specs.declared.call.Call.{Call}
use Rattle.script.specs.declared.call.Call.TheVariants as call
use Rattle.script.specs.declared.call.Make.{Make}
use Rattle.script.specs.declared.call.Make.TheVariants as make
use Rattle.script.specs.declared.call.Work.{Work}
use Rattle.script.specs.declared.call.Work.TheVariants as work
use Rattle.script.specs.declared.misread.Misread.{Misread}
use Rattle.script.specs.declared.misread.Misread.TheVariants as misread
use Rattle.script.specs.declared.unreadable.Unreadable.{Unreadable}
use Rattle.script.specs.declared.unreadable.Unreadable.TheVariants.{UnknownVerb, Form, UnknownName, NameTaken, NotKeyed, Memory}
use Rattle.script.specs.declared.verb.Verb.{Verb}
use Rattle.script.specs.declared.verb.Verb.TheVariants.{Cipher, Load, Encipher, Decipher, Mode, Tag}
use Rattle.script.specs.Verbs.{verb_word, NoVerb}

pub data Making : Type 0 where
  blowfish : Making
  xtea : Making
  triple : List ℕ → List ℕ → List ℕ → Making

abbrev pub making_words : Making → List (List ℕ)
making_words blowfish = codes "blowfish" ∷ []
making_words xtea = codes "xtea" ∷ []
making_words (triple a b c) = codes "triple" ∷ a ∷ b ∷ c ∷ []

abbrev pub NoMaking : List (List ℕ) → Type 0
NoMaking ws = (m : Making) → ws ≢ making_words m

abbrev pub bytes_word : List ℕ → List ℕ
bytes_word [] = codes "-"
bytes_word (b ∷ bs) = spelled (b ∷ bs)

-- what is enciphered: a block, or a text by a mode's name from a start
pub data Working : Type 0 where
  one : Block → Working
  text : List ℕ → Block → List ℕ → Working

abbrev pub working_words : Working → List (List ℕ)
working_words (one b) = spelled (bytes_of b) ∷ []
working_words (text m s t) = m ∷ spelled (bytes_of s) ∷ bytes_word t ∷ []

abbrev pub LawfulWorking : Working → Type 0
LawfulWorking (one b) = Sound b
LawfulWorking (text m s t) = Sound s × Bytes t

abbrev pub working : Work → Working
working (work.Block b) = one b
working (work.Text m s t) = text m.now s (vec_items t)

-- what is read off a word or words w, of which says is how a value is written: a lawful value, or there is none; want of memory aside
abbrev pub Said : {W A T : Type 0} → (A → Type 0) → (A → W) → (T → A) → W → Result T Misread → Type 0
Said {W} {A} {T} lawful says view w (Ok x) = (w ≡ says (view x)) × lawful (view x)
Said {W} {A} {T} lawful says view w (Err misread.Form) = (a : A) → lawful a → w ≢ says a
Said {W} {A} {T} lawful says view w (Err misread.Memory) = Unit {0}

abbrev pub Args : Verb → Type 0
Args Cipher = List ℕ × Making
Args Load = List ℕ × List ℕ
Args Encipher = List ℕ × Working
Args Decipher = List ℕ × Working
Args Mode = List ℕ
Args Tag = List ℕ × List ℕ

abbrev pub arg_words : (v : Verb) → Args v → List (List ℕ)
arg_words Cipher a = a.0 ∷ making_words a.1
arg_words Load a = a.0 ∷ bytes_word a.1 ∷ []
arg_words Encipher a = a.0 ∷ working_words a.1
arg_words Decipher a = a.0 ∷ working_words a.1
arg_words Mode a = a ∷ []
arg_words Tag a = a.0 ∷ bytes_word a.1 ∷ []

abbrev pub Lawful : (v : Verb) → Args v → Type 0
Lawful Cipher a = Unit {0}
Lawful Load a = Bytes a.1
Lawful Encipher a = LawfulWorking a.1
Lawful Decipher a = LawfulWorking a.1
Lawful Mode a = Unit {0}
Lawful Tag a = Bytes a.1

abbrev pub making : Make → Making
making make.Blowfish = blowfish
making make.Xtea = xtea
making (make.Triple a b c) = triple a.now b.now c.now

abbrev pub verb_of : Call → Verb
verb_of (call.Cipher n m) = Cipher
verb_of (call.Load n key) = Load
verb_of (call.Encipher n w) = Encipher
verb_of (call.Decipher n w) = Decipher
verb_of (call.Mode n) = Mode
verb_of (call.Tag n t) = Tag

abbrev pub args_of : (c : Call) → Args (verb_of c)
args_of (call.Cipher n m) = (n.now, making m)
args_of (call.Load n key) = (n.now, vec_items key)
args_of (call.Encipher n w) = (n.now, working w)
args_of (call.Decipher n w) = (n.now, working w)
args_of (call.Mode n) = n.now
args_of (call.Tag n t) = (n.now, vec_items t)

abbrev pub Says : List (List ℕ) → Call → Type 0
Says ws c = (ws ≡ verb_word (verb_of c) ∷ arg_words (verb_of c) (args_of c)) × Lawful (verb_of c) (args_of c)

-- the calls whose reading takes memory: a key or a text may be of any length
abbrev pub Allocates : Verb → Type 0
Allocates Cipher = ⊥
Allocates Load = Unit {0}
Allocates Encipher = Unit {0}
Allocates Decipher = Unit {0}
Allocates Mode = ⊥
Allocates Tag = Unit {0}

abbrev pub Fault : Verb → List (List ℕ) → Unreadable → Type 0
Fault v ws UnknownVerb = ⊥
Fault v ws (Form u) = (u ≡ v) × ((a : Args v) → Lawful v a → ws ≢ arg_words v a)
Fault v ws UnknownName = ⊥
Fault v ws NameTaken = ⊥
Fault v ws NotKeyed = ⊥
Fault v ws Memory = Allocates v

-- why a line is no call, where the words after its verb are not read
abbrev pub fault_of : Verb → Misread → Unreadable
fault_of v misread.Form = Form v
fault_of v misread.Memory = Memory

-- what is read off the words after a verb
abbrev pub Takes : Verb → List (List ℕ) → Result Call Misread → Type 0
Takes v ws (Ok c) = Says (verb_word v ∷ ws) c
Takes v ws (Err m) = Fault v ws (fault_of v m)

-- no verb is the first word, or the words after it are no call
pub data Wrong (ws : List (List ℕ)) (e : Unreadable) : Type 0 where
  unknown : (w : List ℕ) (rest : List (List ℕ)) → ws ≡ w ∷ rest → NoVerb w → e ≡ UnknownVerb → Wrong ws e
  misformed : (v : Verb) (rest : List (List ℕ)) → ws ≡ verb_word v ∷ rest → Fault v rest e → Wrong ws e

abbrev pub Reads : List (List ℕ) → Result (Option Call) Unreadable → Type 0
Reads ws (Ok None) = ws ≡ []
Reads ws (Ok (Some c)) = Says ws c
Reads ws (Err e) = Wrong ws e
