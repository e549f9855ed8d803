-- What a register seals is taken in by another: the standings are joined number by number.
use Rattle.std.proofs.Common.{◌≡◌, ℕ, ◌+◌, Bool, List, length, Option, sym, refl, ap, ◌∙◌, arith, length-append}
use mathlib.Core.Path.{fun_ext}
use Rattle.rules.specs.Registers.{Standing, State, count, Lawful}
use Rattle.rules.specs.Bundles.{Bundle, told, entries_of, bundle_of}
use Rattle.rules.specs.Parcels.{Parcel}
use Rattle.rules.specs.Calls.{joined, newly_marked, new_curve, passed_over, staying, meeting, merged, Clash, TooMany, opened, taken_in_from, opening}
use Rattle.rules.specs.Laws.{meets, joined_with, Agree, SealedIsTakenIn}
use Rattle.rules.proofs.Copies.{entries_lawful, told_entries}
use Rattle.rules.proofs.Parcels.{sealed_is_read}

module _ (s other : State) (L : Lawful other) where
  told_other : told (entries_of other) ≡ other.standing
  told_other = fun_ext (told_entries other L)

  meeting-meets : (test : Option Standing → Option Standing → Bool) → meeting test s (entries_of other) ≡ meets test s other
  meeting-meets test = ap (λ f. count (λ n. test (s.standing n) (f n))) told_other

  merged-joined : joined_with other s ≡ merged (entries_of other) s
  merged-joined = ap {B = State} (λ f. record { station = s.station; serial = s.serial; standing = λ n. joined (s.standing n) (f n) }) (sym told_other)

  no_clash : Agree s other → Clash s (entries_of other) → ⊥
  no_clash g c = c.differ (g.points c.number c.here c.arriving c.now_in_force (sym (told_entries other L c.number) ∙ c.told_other))

  no_crowd : Agree s other → TooMany s (entries_of other) → ⊥
  no_crowd g t = omega (arith, g.places, t, meeting-meets new_curve, meeting-meets staying)

body-length : {bytes : List ℕ} (p : Parcel bytes) → length bytes ≡ length p.body + 16
body-length p = omega (arith, ap length p.is, length-append p.body p.tag, p.tag_length)

pub sealed_is_taken_in : SealedIsTakenIn
sealed_is_taken_in E1 D1 E2 k m other L notEcb more s g work room =
    let r = sealed_is_read E1 D1 E2 k m other L notEcb more in
    let own : Bundle (bundle_of other) = record { entries = entries_of other; lawful = entries_lawful other L; spelled = refl } in (
      opening r.parcel r.size r.tagged (taken_in_from (bundle_of other) (omega (arith, body-length r.parcel, room)) r.reads own (no_clash s other L g) (no_crowd s other L g)
          (λ i. opened (sym (meeting-meets s other L newly_marked) i) (sym (meeting-meets s other L new_curve) i) (sym (meeting-meets s other L passed_over) i))
          (merged-joined s other L)),
      refl,
    )
