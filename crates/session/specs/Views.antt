-- What named ciphers mean.
--   meaning c      what a chosen cipher is
--   entry_of e     a name with what it stands for
--   standing x     the names and what they stand for
--   to_come y      the names and kinds that are yet to come
use Rattle.std.specs.Prelude.{ℕ, List, map, vec_items}
use Rattle.chosen.specs.declared.Kind.{Kind}
use Rattle.chosen.specs.Kinds.{Chosen, chosen_kind}
use Rattle.chosen.specs.Meanings.{chosen_enc, chosen_dec}
use Rattle.session.specs.declared.entry.Entry.{Entry}
use Rattle.session.specs.declared.ciphers.Ciphers.{Ciphers}
use Rattle.session.specs.declared.standing.Standing.{Standing}
use Rattle.session.specs.State.{Meaning, State, kinds}

abbrev pub meaning : Chosen → Meaning
meaning c = record { kind = chosen_kind c; enc = chosen_enc c; dec = chosen_dec c }

abbrev pub entry_of : Entry → List ℕ × Meaning
entry_of e = (vec_items e.name, meaning e.cipher)

abbrev pub standing : Ciphers → State
standing x = map entry_of (vec_items x.entries)

abbrev pub to_come : Standing → List (List ℕ × Kind)
to_come y = kinds (map entry_of y.entries.now)
