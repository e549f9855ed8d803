-- Bundles and parcels of a new register, and of one with only 7 withdrawn.
use Rattle.std.proofs.Common.{◌≡◌, ℕ, [], ◌∷◌, length, refl}
use Rattle.cipher.specs.declared.block.Block.{Block}
use Rattle.modes.specs.declared.mode.Mode.{Mode}
use Rattle.rules.specs.Registers.{new_state, put, in_force, withdrawn}
use Rattle.rules.specs.Bundles.{entries_up_to, bundle_of, padded}
use Rattle.rules.specs.Parcels.{parcel_of}
use Rattle.worked.specs.Season.{curve_k}
use Rattle.worked.specs.RulesTable.{five_and_seven}

pub new_bundle : (station : ℕ) → bundle_of (new_state station) ≡ 0 ∷ 0 ∷ 0 ∷ 0 ∷ []
unfolding entries_up_to
new_bundle station = refl

pub new_padded : (station : ℕ) → padded (bundle_of (new_state station)) ≡ 0 ∷ 0 ∷ 0 ∷ 0 ∷ 4 ∷ 4 ∷ 4 ∷ 4 ∷ []
unfolding entries_up_to
new_padded station = refl

pub new_parcel : (E1 E2 : Block → Block) (m : Mode) (station : ℕ) → length (parcel_of E1 E2 m (new_state station)) ≡ 24
unfolding entries_up_to
new_parcel E1 E2 m station = refl

pub seven_bundle : (station : ℕ) → bundle_of (put 7 withdrawn (new_state station)) ≡ 0 ∷ 1 ∷ 0 ∷ 0 ∷ 0 ∷ 7 ∷ 2 ∷ 0 ∷ []
unfolding entries_up_to
seven_bundle station = refl

pub seven_parcel : (E1 E2 : Block → Block) (m : Mode) (station : ℕ) → length (parcel_of E1 E2 m (put 7 withdrawn (new_state station))) ≡ 32
unfolding entries_up_to
seven_parcel E1 E2 m station = refl

pub bundle_of_five_and_seven : (station : ℕ) → bundle_of (put 7 withdrawn (put 5 (in_force curve_k) (new_state station))) ≡ five_and_seven
unfolding entries_up_to
bundle_of_five_and_seven station = refl
