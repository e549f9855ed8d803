-- What a line comes to.
--   Carried ws s r t       the words ws, where s stands, come to the answer r, and t stands then
--   Heard ws s r t         the same, with no answer where there are no words
--   Heeded ws s m r t n    the same, with the tallies m and n before and after
use Rattle.std.specs.Prelude.{◌≡◌, ℕ, List, [], ◌∷◌, Some, None, Option}
use Rattle.script.specs.declared.unreadable.Unreadable.{Unreadable}
use Rattle.script.specs.declared.verb.Verb.{Verb}
use Rattle.script.specs.Calls.{Args, arg_words, Lawful, Wrong}
use Rattle.script.specs.Verbs.{verb_word}
use Rattle.session.specs.declared.answer.Answer.{Answer}
use Rattle.session.specs.declared.answer.Answer.TheVariants.{Unreadable as unreadable}
use Rattle.session.specs.declared.tally.Tally.{Tally}
use Rattle.session.specs.Calls.{Does}
use Rattle.session.specs.State.{State}
use Rattle.session.specs.Tallies.{counted}

abbrev pub none : Tally
none = record { accepted = 0; refused = 0; unreadable = 0 }

-- the words are a call, which is carried out, or they are none
pub data Carried (ws : List (List ℕ)) (s : State) (r : Answer) (t : State) : Type 0 where
  called : (v : Verb) (a : Args v) → ws ≡ verb_word v ∷ arg_words v a → Lawful v a → Does v a s r t → Carried ws s r t
  no_call : (u : Unreadable) → Wrong ws u → r ≡ unreadable u → t ≡ s → Carried ws s r t

abbrev pub Heard : List (List ℕ) → State → Option Answer → State → Type 0
Heard ws s None t = (ws ≡ []) × (t ≡ s)
Heard ws s (Some r) t = Carried ws s r t

abbrev pub Heeded : List (List ℕ) → State → Tally → Option Answer → State → Tally → Type 0
Heeded ws s m None t n = (ws ≡ []) × (t ≡ s) × (n ≡ m)
Heeded ws s m (Some r) t n = Carried ws s r t × (n ≡ counted r m)
