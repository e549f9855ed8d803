-- Worked examples of curves, bundles and runs, each a row of one table.
use Rattle.std.specs.Prelude.{◌≡◌, ℕ, List, [], ◌∷◌, length, pos, negsuc}
use Rattle.cipher.specs.declared.block.Block.{Block}
use Rattle.modes.specs.declared.mode.Mode.{Mode}
use Rattle.curve.specs.Curves.{LawfulCurve, FlowAt}
use Rattle.rules.specs.Registers.{new_state, put, in_force, withdrawn}
use Rattle.rules.specs.Bundles.{bundle_of, padded}
use Rattle.rules.specs.Parcels.{parcel_of}
use Rattle.rules.specs.Calls.{Does, convert, refused}
use Rattle.worked.specs.Season.{curve_k, upper_published, SeasonIsARun}

-- the bundle of curve K as 5 and of 7 withdrawn: counts, entries, three points
abbrev pub five_and_seven : List ℕ
five_and_seven =
    0 ∷ 2 ∷ 0 ∷ 3
    ∷ 0 ∷ 5 ∷ 1 ∷ 3
    ∷ 0 ∷ 7 ∷ 2 ∷ 0
    ∷ 0xFF ∷ 0xFF ∷ 0xFF ∷ 0x38 ∷ 0 ∷ 0 ∷ 0 ∷ 0
    ∷ 0 ∷ 0 ∷ 0 ∷ 0 ∷ 0 ∷ 0 ∷ 0x05 ∷ 0xDC
    ∷ 0 ∷ 0 ∷ 0x01 ∷ 0x90 ∷ 0 ∷ 0 ∷ 0x25 ∷ 0x1C ∷ []

pub record RulesTable : Type 0 where
  -- curve K, (−200, 0), (0, 1500), (400, 9500), and its flow at some stages
  pub k_is_lawful : LawfulCurve curve_k
  pub k_at_100 : FlowAt curve_k (pos 100) 3500
  pub k_at_minus_50 : FlowAt curve_k (negsuc 49) 1125
  pub k_at_minus_1 : FlowAt curve_k (negsuc 0) 1492
  pub k_at_400 : FlowAt curve_k (pos 400) 9500
  -- above the last point and below the first, convert says 7
  pub k_at_401 : (E1 E2 : Block → Block) → Does E1 E2 upper_published (convert 5 (pos 401 ∷ []) (0 ∷ [])) (refused 7) (0 ∷ []) upper_published
  pub k_at_minus_201 : (E1 E2 : Block → Block) → Does E1 E2 upper_published (convert 5 (negsuc 200 ∷ []) (0 ∷ [])) (refused 7) (0 ∷ []) upper_published
  -- a new register's bundle, padded, and the length of its parcel
  pub new_bundle : (station : ℕ) → bundle_of (new_state station) ≡ 0 ∷ 0 ∷ 0 ∷ 0 ∷ []
  pub new_padded : (station : ℕ) → padded (bundle_of (new_state station)) ≡ 0 ∷ 0 ∷ 0 ∷ 0 ∷ 4 ∷ 4 ∷ 4 ∷ 4 ∷ []
  pub new_parcel : (E1 E2 : Block → Block) (m : Mode) (station : ℕ) → length (parcel_of E1 E2 m (new_state station)) ≡ 24
  -- with only 7 withdrawn
  pub seven_bundle : (station : ℕ) → bundle_of (put 7 withdrawn (new_state station)) ≡ 0 ∷ 1 ∷ 0 ∷ 0 ∷ 0 ∷ 7 ∷ 2 ∷ 0 ∷ []
  pub seven_parcel : (E1 E2 : Block → Block) (m : Mode) (station : ℕ) → length (parcel_of E1 E2 m (put 7 withdrawn (new_state station))) ≡ 32
  -- with curve K in force as 5, and 7 withdrawn
  pub bundle_of_five_and_seven : (station : ℕ) → bundle_of (put 7 withdrawn (put 5 (in_force curve_k) (new_state station))) ≡ five_and_seven
  -- a season at three stations
  pub season : SeasonIsARun
