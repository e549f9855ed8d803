-- Looking a number up, place by place.
use Rattle.std.proofs.Common.{◌≡◌, ℕ, suc, ◌<◌, false, List, [], ◌∷◌, length, get_or, None, refl, ⊎_elim, arith}
use Rattle.std.proofs.lemmas.Bool.{cases_Bool}
use Rattle.register.specs.declared.place.Place.{Place}
use Rattle.register.specs.Places.{bears, held, Nowhere, blank}
use Rattle.register.proofs.Changes.{held-some}

held_nowhere : (ps : List Place) (n : ℕ) → ((i : ℕ) → i < length ps → bears (get_or ps i blank).state n ≡ false) → held ps n ≡ None
held_nowhere [] n h = refl
held_nowhere (p ∷ ps) n h = let b = h 0 (omega arith) in rw b (held_nowhere ps n (λ i l. h (suc i) (omega arith)))

pub nowhere_held : (ps : List Place) (n : ℕ) → length ps ≡ 32 → Nowhere ps n → held ps n ≡ None
nowhere_held ps n e h = held_nowhere ps n (λ i l. h i (omega arith))

-- and where none is in force with the number, no place has it
pub held_none : (ps : List Place) (n : ℕ) → held ps n ≡ None → Nowhere ps n
held_none ps n h i l = ⊎_elim (λ t. absurd (held-some ps i n t h)) (λ f. f) (cases_Bool (bears (get_or ps i blank).state n))
