use Rattle.std.proofs.lemmas.Option.{MatchOption-at_some}
use Rattle.std.proofs.lemmas.Result.{err_from_is_err_and}
use Rattle.script.proofs.Misreading.{load_unread, tag_unread, encipher_unread, decipher_unread}
use Rattle.script.proofs.reading.after.Goals as goal

pub returns-in_err-last_bytes-in-Load : goal.returns-in_err-last_bytes-in-Load
returns-in_err-last_bytes-in-Load c =
    let e = c.from_residual-in_err-last_bytes-in-Load in
    let p = err_from_is_err_and e.result e.ensures.1 in
    let is = MatchOption-at_some _ _ _ c.in_ok-name.ensures.ok_part c.word.ensures in
    rw (p.1, p.2, c.in-Load.is) (load_unread _ _ _ is _ c.in_err-last_bytes-in-Load.ensures)

pub returns-in_err-last_bytes-in-Tag : goal.returns-in_err-last_bytes-in-Tag
returns-in_err-last_bytes-in-Tag c =
    let e = c.from_residual-in_err-last_bytes-in-Tag in
    let p = err_from_is_err_and e.result e.ensures.1 in
    let is = MatchOption-at_some _ _ _ c.in_ok-name.ensures.ok_part c.word.ensures in
    rw (p.1, p.2, c.in-Tag.is) (tag_unread _ _ _ is _ c.in_err-last_bytes-in-Tag.ensures)

pub returns-in_err-work-in-Encipher : goal.returns-in_err-work-in-Encipher
returns-in_err-work-in-Encipher c =
    let e = c.from_residual-in_err-work-in-Encipher in
    let p = err_from_is_err_and e.result e.ensures.1 in
    let is = MatchOption-at_some _ _ _ c.in_ok-name.ensures.ok_part c.word.ensures in
    rw (p.1, p.2, c.in-Encipher.is) (encipher_unread _ _ _ is _ c.in_err-work-in-Encipher.ensures)

pub returns-in_err-work-in-Decipher : goal.returns-in_err-work-in-Decipher
returns-in_err-work-in-Decipher c =
    let e = c.from_residual-in_err-work-in-Decipher in
    let p = err_from_is_err_and e.result e.ensures.1 in
    let is = MatchOption-at_some _ _ _ c.in_ok-name.ensures.ok_part c.word.ensures in
    rw (p.1, p.2, c.in-Decipher.is) (decipher_unread _ _ _ is _ c.in_err-work-in-Decipher.ensures)
