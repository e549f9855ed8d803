-- A place as it is at first, and lists of one value.
use Rattle.std.proofs.Common.{◌≡◌, ℕ, zero, suc, ◌≤◌, true, false, length, get_or, take, replicate, pos, None, refl}
use mathlib.Core.HLevel.{is_prop→PathP}
use native.Mathlib.Nat.{ℕ_set}
use native.Mathlib.Bridge.{le_prop}
use Rattle.register.specs.declared.place.Place.{Place}
use Rattle.register.specs.declared.place.PlaceState.TheVariants.{Free}
use Rattle.register.specs.Places.{bears, held, unused, once}

-- the fields tell a place, since each of its facts has one proof
pub is_unused : (p : Place) → p.state ≡ Free → p.count ≡ 0 → p.stages ≡ replicate 16 (pos 0) → p.flows ≡ replicate 16 0 → p ≡ unused
is_unused p s n ss qs =
    λ i. record {
      state = s i;
      count = n i;
      stages = ss i;
      flows = qs i;
      stages_enough = is_prop→PathP (λ j. length (take (n j) (ss j)) ≡ n j) (λ j. ℕ_set _ _) p.stages_enough unused.stages_enough i;
      flows_enough = is_prop→PathP (λ j. length (take (n j) (qs j)) ≡ n j) (λ j. ℕ_set _ _) p.flows_enough unused.flows_enough i;
      few = is_prop→PathP (λ j. n j ≤ 16) (λ j. le_prop) p.few unused.few i;
    }

pub none-marked : (k n : ℕ) → get_or (replicate k false) n false ≡ false
none-marked zero n = refl
none-marked (suc k) zero = refl
none-marked (suc k) (suc n) = none-marked k n

free_bears : (p : Place) (n : ℕ) → p.state ≡ Free → bears p.state n ≡ false
free_bears p n f = rw f

pub none-held : (k n : ℕ) (p : Place) → p.state ≡ Free → held (replicate k p) n ≡ None
none-held zero n p f = refl
none-held (suc k) n p f = let b = free_bears p n f in rw b (none-held k n p f)

pub none-once : (k n : ℕ) (p : Place) → p.state ≡ Free → once (replicate k p) n ≡ true
none-once zero n p f = refl
none-once (suc k) n p f = let b = free_bears p n f in rw b (none-once k n p f)
