use Rattle.std.proofs.Common.{length, refl, ap, ◌∙◌}
use Rattle.std.proofs.lemmas.List.{length-set}
use Rattle.register.proofs.Changes.{held-some}
use Rattle.register.proofs.Held.{nowhere_held}
use Rattle.register.proofs.Laws.{freed_here, freed_others, freed_once, freed_free, freed_stays, counts_set}
use Rattle.register.proofs.table.Table+Place.evict.Goals as goal

pub returns-in-Some : goal.returns-in-Some
returns-in-Some c =
    let ps = c.args.self.now.places in
    let i = c.in-Some.i in
    let n = c.args.number in
    let b = c.in-Some.ensures.1 in
    let o = c.release.ensures in
    let e = o.1 in
    record {
      gone = rw e (freed_here ps i n o.0 b o.2 c.requires.apart);
      others = rw e (freed_others ps i n o.0 b o.2);
      onces = rw e (freed_once ps i n o.0 b o.2);
      long = ap length e ∙ simp length-set;
      freed = rw e (freed_free ps i n o.0 b o.2 c.requires.apart);
      stays = rw e (freed_stays ps i n o.0 b o.2);
      counts = rw e (counts_set ps i o.0 o.3);
    }

pub returns-in_default : goal.returns-in_default
returns-in_default c =
    let none = nowhere_held c.args.self.now.places c.args.number c.requires.whole c.in_default.ensures in
    record {
      gone = none;
      others = λ m ne. refl;
      onces = λ m o. o;
      long = refl;
      freed = λ j b. absurd (held-some c.args.self.now.places j c.args.number b none);
      stays = λ j b. refl;
      counts = λ j. refl;
    }
