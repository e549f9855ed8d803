-- What each call comes to, as a relation of what stood, the answer and what stands then.
--   fresh_blowfish, fresh_xtea      a cipher of the kind before any load
--   under k key          a cipher of kind k under a key
--   ede p q o            three ciphers in a row: p's E, q's D, o's E
--   made s m             the cipher that is made, or why it is not
--   Makes, Loads, Enciphers, Deciphers, Codes, Tags      a call of the verb, with its cases
--   Turned               a block or a text through a cipher, either way
--   Enciphered, Deciphered                  a text by a mode; ByMode, either way
--   Does v a s r t       a call of the verb v about a
use Rattle.std.specs.Prelude.{◌≡◌, ℕ, ◌≤◌, List, [], ◌∷◌, ◌++◌, length, replicate, Some, None, Ok, Err, Result, String, string_bytes}
use Rattle.std.specs.declared.alloc.Global.{Global}
use Rattle.blowfish.specs.Blowfish as blowfishes
use Rattle.blowfish.specs.Schedule.{initial}
use Rattle.chosen.specs.declared.Kind.{Kind}
use Rattle.chosen.specs.declared.Kind.TheVariants as kind
use Rattle.chosen.specs.Meanings.{Lengths, enc_under, dec_under}
use Rattle.cipher.specs.declared.block.Block.{Block}
use Rattle.refusal.specs.declared.Refusal.{Refusal}
use Rattle.refusal.specs.Refusals.{number_of}
use Rattle.script.specs.declared.unreadable.Unreadable.{Unreadable}
use Rattle.script.specs.declared.unreadable.Unreadable.TheVariants as why
use Rattle.script.specs.declared.verb.Verb.{Verb}
use Rattle.script.specs.declared.verb.Verb.TheVariants.{Cipher, Load, Encipher, Decipher, Mode, Tag}
use Rattle.modes.specs.declared.mode.Mode as mode
use Rattle.modes.specs.Cmac.{tag_of}
use Rattle.modes.specs.Names.{called, Unnamed}
use Rattle.modes.specs.Texts as texts
use Rattle.script.specs.Calls.{Making, Working, Args, bytes_word}
use Rattle.script.specs.Calls.Working.{one, text}
use Rattle.script.specs.Calls.Making.{blowfish, xtea, triple}
use Rattle.xtea.specs.Xtea as xteas
use Rattle.xtea.specs.Xtea.{key_words}
use Rattle.session.specs.declared.answer.Answer.{Answer}
use Rattle.session.specs.declared.answer.Answer.TheVariants.{Accepted, Refused, Unreadable as unreadable}
use Rattle.session.specs.declared.answer.Value.TheVariants as value
use Rattle.session.specs.State.{Meaning, State, find, put, keyed_at}

-- Blowfish stands at the tables of pi, XTEA under sixteen zero bytes
abbrev pub fresh_blowfish : Meaning
fresh_blowfish = record { kind = kind.Blowfish; enc = blowfishes.enciphered initial; dec = blowfishes.deciphered initial }

abbrev pub fresh_xtea : Meaning
fresh_xtea = record { kind = kind.Xtea; enc = xteas.enciphered (key_words (replicate 16 0)); dec = xteas.deciphered (key_words (replicate 16 0)) }

abbrev pub under : Kind → List ℕ → Meaning
under k key = record { kind = k; enc = enc_under k key; dec = dec_under k key }

abbrev pub ede : Meaning → Meaning → Meaning → Meaning
ede p q o = record { kind = kind.Triple; enc = λ b. o.enc (q.dec (p.enc b)); dec = λ b. p.dec (q.enc (o.dec b)) }

-- what follows of each part, in turn; the first part that is missing is the reason
abbrev pub then : Result Meaning Unreadable → (Meaning → Result Meaning Unreadable) → Result Meaning Unreadable
then (Ok m) f = f m
then (Err u) f = Err u

abbrev pub made : State → Making → Result Meaning Unreadable
made s blowfish = Ok fresh_blowfish
made s xtea = Ok fresh_xtea
made s (triple a b c) = then (keyed_at a s) (λ p. then (keyed_at b s) (λ q. then (keyed_at c s) (λ o. Ok (ede p q o))))

-- memory is asked for last, where the call is accepted otherwise
pub data Makes (n : List ℕ) (m : Making) (s : State) (r : Answer) (t : State) : Type 0 where
  taken : (x : Meaning) → find n s ≡ Some x → r ≡ unreadable why.NameTaken → t ≡ s → Makes n m s r t
  unmade : (u : Unreadable) → find n s ≡ None → made s m ≡ Err u → r ≡ unreadable u → t ≡ s → Makes n m s r t
  makes : (x : Meaning) → find n s ≡ None → made s m ≡ Ok x → r ≡ Accepted value.Nothing → t ≡ s ++ (n, x) ∷ [] → Makes n m s r t
  no_memory : (x : Meaning) → find n s ≡ None → made s m ≡ Ok x → r ≡ unreadable why.Memory → t ≡ s → Makes n m s r t

pub data Loads (n key : List ℕ) (s : State) (r : Answer) (t : State) : Type 0 where
  unkeyed : (u : Unreadable) → keyed_at n s ≡ Err u → r ≡ unreadable u → t ≡ s → Loads n key s r t
  refused : (x : Meaning) (e : Refusal) → keyed_at n s ≡ Ok x → (Lengths x.kind (length key) → ⊥) → r ≡ Refused e → number_of e ≡ 16 → t ≡ s → Loads n key s r t
  loads : (x : Meaning) → keyed_at n s ≡ Ok x → Lengths x.kind (length key) → r ≡ Accepted value.Nothing → t ≡ put n (under x.kind key) s → Loads n key s r t

-- a text by a mode under E, where T is what the call on a buffer answers and leaves: 18 where no mode has the name, else as that call is;
-- memory for the answer is asked for last
pub data ByMode (T : mode.Mode → (Block → Block) → Block → List ℕ → Result Block Refusal → List ℕ → Type 0)
    (m : List ℕ) (E : Block → Block) (c : Block) (z : List ℕ) (r : Answer) : Type 0 where
  no_mode : (e : Refusal) → Unnamed m → r ≡ Refused e → number_of e ≡ 18 → ByMode T m E c z r
  refused : (k : mode.Mode) (e : Refusal) (y : List ℕ) → m ≡ (called k).0 → T k E c z (Err e) y → r ≡ Refused e → ByMode T m E c z r
  no_memory : (k : mode.Mode) (b : Block) (y : List ℕ) → m ≡ (called k).0 → T k E c z (Ok b) y → r ≡ unreadable why.Memory → ByMode T m E c z r
  done : (k : mode.Mode) (b : Block) (v : String Global) (y : List ℕ) → m ≡ (called k).0 → T k E c z (Ok b) y → r ≡ Accepted (value.Text b v)
      → string_bytes v ≡ bytes_word y → ByMode T m E c z r

-- 17 where the text is not whole blocks or too long; else the block with which a following piece starts, and the text
abbrev pub Enciphered : List ℕ → (Block → Block) → Block → List ℕ → Answer → Type 0
Enciphered = ByMode texts.Enciphers

-- the same, and the text is the one that enciphers to what was given
abbrev pub Deciphered : List ℕ → (Block → Block) → Block → List ℕ → Answer → Type 0
Deciphered = ByMode texts.Deciphers

-- a call about a block or a text, where a cipher turns a block by f, and T is what its E does to a text by a mode
pub data Turned (f : Meaning → Block → Block) (T : List ℕ → (Block → Block) → Block → List ℕ → Answer → Type 0)
    (n : List ℕ) (w : Working) (s : State) (r : Answer) (t : State) : Type 0 where
  unknown : find n s ≡ None → r ≡ unreadable why.UnknownName → t ≡ s → Turned f T n w s r t
  turns_block : (x : Meaning) (b : Block) → w ≡ one b → find n s ≡ Some x → r ≡ Accepted (value.Block (f x b)) → t ≡ s → Turned f T n w s r t
  turns_text : (x : Meaning) (m : List ℕ) (c : Block) (z : List ℕ) → w ≡ text m c z → find n s ≡ Some x → T m x.enc c z r → t ≡ s → Turned f T n w s r t

abbrev pub Enciphers : List ℕ → Working → State → Answer → State → Type 0
Enciphers = Turned (λ x. x.enc) Enciphered

abbrev pub Deciphers : List ℕ → Working → State → Answer → State → Type 0
Deciphers = Turned (λ x. x.dec) Deciphered

pub data Codes (n : List ℕ) (s : State) (r : Answer) (t : State) : Type 0 where
  no_mode : (e : Refusal) → Unnamed n → r ≡ Refused e → number_of e ≡ 18 → t ≡ s → Codes n s r t
  codes : (k : mode.Mode) → n ≡ (called k).0 → r ≡ Accepted (value.Code (called k).1) → t ≡ s → Codes n s r t

pub data Tags (n z : List ℕ) (s : State) (r : Answer) (t : State) : Type 0 where
  unknown : find n s ≡ None → r ≡ unreadable why.UnknownName → t ≡ s → Tags n z s r t
  too_long : (x : Meaning) (e : Refusal) → find n s ≡ Some x → (length z ≤ 65536 → ⊥) → r ≡ Refused e → number_of e ≡ 17 → t ≡ s → Tags n z s r t
  tags : (x : Meaning) → find n s ≡ Some x → r ≡ Accepted (value.Block (tag_of x.enc z)) → t ≡ s → Tags n z s r t

abbrev pub Does : (v : Verb) → Args v → State → Answer → State → Type 0
Does Cipher a s r t = Makes a.0 a.1 s r t
Does Load a s r t = Loads a.0 a.1 s r t
Does Encipher a s r t = Enciphers a.0 a.1 s r t
Does Decipher a s r t = Deciphers a.0 a.1 s r t
Does Mode a s r t = Codes a s r t
Does Tag a s r t = Tags a.0 a.1 s r t
