-- Entries of a session, and what they mean.
use Rattle.std.proofs.Common.{◌≡◌, ℕ, ◌<◌, List, map, length, get_or, sym, ap, ◌∙◌}
use Rattle.std.proofs.lemmas.List.{get_or-map}
use Rattle.session.specs.declared.entry.Entry.{Entry}
use Rattle.session.specs.Views.{entry_of}

pub entry_at : (xs : List Entry) (i : ℕ) (x : Entry) → i < length xs → x ≡ get_or xs i x → entry_of x ≡ get_or (map entry_of xs) i (entry_of x)
entry_at xs i x h e = ap entry_of e ∙ sym (get_or-map entry_of xs i x (entry_of x) h)
