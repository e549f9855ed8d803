use Rattle.std.proofs.Common.{refl, ap, ◌∙◌, rules}
use Rattle.std.proofs.lemmas.List.{with_items_is}
use Rattle.script.specs.Calls.{bytes_word}
use Rattle.session.specs.Calls.ByMode.{no_mode, refused, no_memory, done}
use Rattle.session.proofs.Faults.{fault}
use Rattle.session.proofs.texts.by_mode.Goals as goal

pub returns-in_err-mode : goal.returns-in_err-mode
returns-in_err-mode g c =
    let h = c.in_err-mode.ensures in
    rw (fault c.from_residual.result c.from_residual.ensures.1) (no_mode _ h.1 refl h.0)

pub returns-in_err-next : goal.returns-in_err-next
returns-in_err-next g c =
    rw (fault c.from_residual-in_err-next.result c.from_residual-in_err-next.ensures.1) (refused c.in_ok-mode.mode c.in_err-next.field-0.0 c.text.new.buffer c.in_ok-mode.ensures
    (rw (← c.in_err-next.was, ← c.as_mut_slice.ensures.value) c.text.ensures) refl)

pub returns-in_err-word : goal.returns-in_err-word
returns-in_err-word g c =
    rw (fault c.from_residual-in_err-word.result c.from_residual-in_err-word.ensures.1) (no_memory c.in_ok-mode.mode c.in_ok-next.next c.text.new.buffer c.in_ok-mode.ensures
    (rw (← c.in_ok-next.was, ← c.as_mut_slice.ensures.value) c.text.ensures) refl)

pub returns : goal.returns
returns g c =
    let same = with_items_is c.args.text c.text.new.buffer (search rules) in
    done c.in_ok-mode.mode c.in_ok-next.next c.in_ok-word.word c.text.new.buffer c.in_ok-mode.ensures
    (rw (← c.in_ok-next.was, ← c.as_mut_slice.ensures.value) c.text.ensures) refl (c.in_ok-word.ensures ∙ ap bytes_word (c.as_slice.ensures.value ∙ same))
