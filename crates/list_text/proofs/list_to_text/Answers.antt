-- `list_text::list_to_text` meets its contract: the header, and then the entries' lines. Assumes nothing.
use mathlib.Core.Path.{◌≡◌}
use native.Mathlib.Omega.{arith}
use borrow.Author.Tests.{lt-ltb, le-ltb}
use Rattle.std.proofs.lemmas.Result.{err_from_is_err_and}
use Rattle.protocol.specs.Text.{list_text}
use Rattle.lists.specs.Entries.{entries_left}
use Rattle.job.specs.declared.Reason.TheVariants.{NoRoom}
use Rattle.job.proofs.Refusals.{ended_refused}
use Rattle.print.proofs.Ends.{printed_made}
use Rattle.print.proofs.Laid.{then, laid_length}
use Rattle.list_text.proofs.Lists.{one_list, list_twelve, list_nine, list_none, text_length}
use Rattle.list_text.proofs.list_to_text.Goals as goal

pub returns-in_err-list : goal.returns-in_err-list
returns-in_err-list c =
    let p = err_from_is_err_and c.from_residual.result c.from_residual.ensures.1 in
    rw (p.1, p.2) (ended_refused _ _ _ _ (list_twelve _ _ c.in_err-list.field-0.0 c.in_err-list.ensures.why))

pub returns-in_err-ok_or : goal.returns-in_err-ok_or
returns-in_err-ok_or c =
    let p = err_from_is_err_and c.from_residual-in_err-ok_or.result c.from_residual-in_err-ok_or.ensures.1 in
    let reason : c.in_err-ok_or.field-0.0 ≡ NoRoom = let why = rw c.in_err-ok_or.ensures.ok_part at c.in_err-ok_or.ensures.value in cc in
    let long = rw (c.in_err-ok_or.ensures.ok_part, c.in_ok-list.ensures.entries) at c.room_left.ensures in
    rw (p.1, p.2, reason)
    (ended_refused _ _ _ _ (list_nine _ _ (one_list _ c.in_ok-list.ensures.why) (lt-ltb _ _ (omega (arith, long)))))

pub put_bytes-p-requires : goal.put_bytes-p-requires
put_bytes-p-requires c =
    let enough = rw c.in_ok-ok_or.ensures.ok_part at c.room_left.ensures in
    omega (arith, enough.0, text_length (entries_left c.in_ok-list.list))

pub put_lines-requires : goal.put_lines-requires
put_lines-requires c =
    let enough = rw c.in_ok-ok_or.ensures.ok_part at c.room_left.ensures in
    omega (arith, enough.0, text_length (entries_left c.in_ok-list.list), laid_length c.put_bytes-p.ensures, c.put_bytes-p.ensures.behind)

pub returns : goal.returns
unfolding list_text
returns c =
    let enough = rw (c.in_ok-ok_or.ensures.ok_part, c.in_ok-list.ensures.entries) at c.room_left.ensures in
    printed_made _ _ _ (list_none _ _ (one_list _ c.in_ok-list.ensures.why) (le-ltb _ _ enough.0)) enough.0
    (rw c.in_ok-list.ensures.entries at (then c.put_bytes-p.ensures c.put_lines.ensures))
