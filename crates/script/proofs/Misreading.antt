-- Words after a verb that are not read.
use Rattle.std.proofs.Common.{◌≡◌, ℕ, length, get_or, Bool, true, false, Decides, List, [], ◌∷◌, codes, Option, Some, None, MatchOption, Result, MatchResult, Ok, Err, subst, Vec, vec_items, ◌≢◌, refl, sym, ap, ◌∙◌}
use Rattle.std.specs.declared.alloc.Global.{Global}
use Rattle.std.specs.Bool.{then_some}
use Rattle.std.proofs.lemmas.Bool.{false≢true}
use Rattle.std.proofs.lemmas.List.FromFn.{fill_by_all}
use Rattle.std.specs.Result.{IsErrAnd}
use Rattle.std.proofs.lemmas.Result.{err_from_is_err_and}
use Rattle.script.specs.declared.call.Call.{Call}
use Rattle.cipher.specs.Bytes.{Bytes}
use Rattle.script.specs.declared.call.Make.{Make}
use Rattle.script.specs.declared.call.Make.TheVariants as make
use Rattle.script.specs.declared.misread.Misread.{Misread}
use Rattle.script.specs.declared.misread.Misread.TheVariants as misread
use Rattle.script.specs.declared.unreadable.Unreadable.{Unreadable}
use Rattle.script.specs.declared.verb.Verb.{Verb}
use Rattle.script.specs.declared.verb.Verb.TheVariants.{Load, Encipher, Decipher, Tag}
use Rattle.script.specs.declared.call.Work.{Work}
use Rattle.script.specs.Calls.{making, making_words, NoMaking, bytes_word, working, working_words, LawfulWorking, Said, Takes, Fault, fault_of}
use Rattle.script.specs.Calls.Making.{blowfish, xtea, triple}

tails : {v w : List ℕ} {vs ws : List (List ℕ)} → v ∷ vs ≡ w ∷ ws → vs ≡ ws
tails {v} {w} {vs} {ws} e = cc

heads : {v w : List ℕ} {vs ws : List (List ℕ)} → v ∷ vs ≡ w ∷ ws → v ≡ w
heads {v} {w} {vs} {ws} e = cc

-- a list of six or of eight numbers, number by number
pub six : (xs : List ℕ) → length xs ≡ 6
    → xs ≡ get_or xs 0 0 ∷ get_or xs 1 0 ∷ get_or xs 2 0 ∷ get_or xs 3 0 ∷ get_or xs 4 0 ∷ get_or xs 5 0 ∷ []
six xs h = fill_by_all (λ k. get_or xs k 0) xs 6 0 h (λ k _. refl)

pub eight : (xs : List ℕ) → length xs ≡ 8
    → xs
    ≡ get_or xs 0 0 ∷ get_or xs 1 0 ∷ get_or xs 2 0 ∷ get_or xs 3 0 ∷ get_or xs 4 0 ∷ get_or xs 5 0 ∷ get_or xs 6 0 ∷ get_or xs 7 0 ∷ []
eight xs h = fill_by_all (λ k. get_or xs k 0) xs 8 0 h (λ k _. refl)

module _ (n : List ℕ) (ws rest : List (List ℕ)) (is : ws ≡ n ∷ rest) where
  behind : (w : List ℕ) (vs : List (List ℕ)) → ws ≡ w ∷ vs → rest ≡ vs
  behind w vs e = tails (sym is ∙ e)

  pub load_unread : (m : Misread) → Said {T = Vec ℕ Global} Bytes (λ bs. bytes_word bs ∷ []) vec_items rest (Err m) → Takes Load ws (Err m)
  load_unread misread.Form h = (refl, λ a l e. h a.1 l (behind _ _ e))
  load_unread misread.Memory h = tt

  pub tag_unread : (m : Misread) → Said {T = Vec ℕ Global} Bytes (λ bs. bytes_word bs ∷ []) vec_items rest (Err m) → Takes Tag ws (Err m)
  tag_unread misread.Form h = (refl, λ a l e. h a.1 l (behind _ _ e))
  tag_unread misread.Memory h = tt

  pub encipher_unread : (m : Misread) → Said {T = Work} LawfulWorking working_words working rest (Err m) → Takes Encipher ws (Err m)
  encipher_unread misread.Form h = (refl, λ a l e. h a.1 l (behind _ _ e))
  encipher_unread misread.Memory h = tt

  pub decipher_unread : (m : Misread) → Said {T = Work} LawfulWorking working_words working rest (Err m) → Takes Decipher ws (Err m)
  decipher_unread misread.Form h = (refl, λ a l e. h a.1 l (behind _ _ e))
  decipher_unread misread.Memory h = tt

  -- a triple, by the words after its name
  no_triple : n ≡ codes "triple" → ((a b c : List ℕ) → rest ≢ a ∷ b ∷ c ∷ []) → NoMaking ws
  no_triple e h blowfish s = let d : codes "triple" ≡ codes "blowfish" = sym e ∙ heads (sym is ∙ s) in cc
  no_triple e h xtea s = let d : codes "triple" ≡ codes "xtea" = sym e ∙ heads (sym is ∙ s) in cc
  no_triple e h (triple a b c) s = h a b c (behind _ _ s)

  pub triple_made : (o : Option Make) → n ≡ codes "triple"
      → MatchOption o ((a b c : List ℕ) → rest ≢ a ∷ b ∷ c ∷ []) (λ m. making_words (making m) ≡ codes "triple" ∷ rest)
      → MatchOption o (NoMaking ws) (λ m. ws ≡ making_words (making m))
  triple_made None e h = no_triple e h
  triple_made (Some m) e h = is ∙ ap (λ w. w ∷ rest) e ∙ sym h

  -- a cipher of Blowfish is made of its one word
  no_blowfish : n ≡ codes "blowfish" → (rest ≡ [] → ⊥) → NoMaking ws
  no_blowfish e h blowfish s = h (behind _ _ s)
  no_blowfish e h xtea s = let d : codes "blowfish" ≡ codes "xtea" = sym e ∙ heads (sym is ∙ s) in cc
  no_blowfish e h (triple a b c) s = let d : codes "blowfish" ≡ codes "triple" = sym e ∙ heads (sym is ∙ s) in cc

  pub blowfish_made : (b : Bool) (o : Option Make) → n ≡ codes "blowfish" → Decides b (rest ≡ []) → o ≡ then_some b make.Blowfish
      → MatchOption o (NoMaking ws) (λ m. ws ≡ making_words (making m))
  blowfish_made true o e d s = rw s (is ∙ ap (λ w. w ∷ rest) e ∙ ap (λ r. codes "blowfish" ∷ r) (d.0 refl))
  blowfish_made false o e d s = rw s (no_blowfish e (λ r. false≢true (d.1 r)))

-- why a line is no call is what its misreading says of the verb
pub call_fault : {Learnt : Misread → Unreadable → Type 0} (r : Result Call Misread) (s : Result Call Unreadable) (v : Verb) (ws : List (List ℕ)) (u : Unreadable)
    → s ≡ Err u → MatchResult r (λ x. s ≡ Ok x) (λ m. IsErrAnd s (Learnt m)) → ((m : Misread) (y : Unreadable) → Learnt m y → y ≡ fault_of v m)
    → Takes v ws r → Fault v ws u
call_fault (Ok x) s v ws u e h k t = cc
call_fault (Err m) s v ws u e h k t =
    let p = err_from_is_err_and s h in
    let same : fault_of v m ≡ u = cc (k m p.0 p.2, p.1, e) in
    subst (Fault v ws) same t
