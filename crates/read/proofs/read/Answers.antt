-- `read::read` meets its contract: refused by the rows, refused for want of room, or scanned into the buffer. Assumes nothing.
use mathlib.Core.Path.{sym, ◌∙◌}
use native.Mathlib.Nat.{zero-add}
use native.Mathlib.Omega.{arith}
use Rattle.std.proofs.lemmas.Result.{err_from_is_err_and}
use Rattle.read.proofs.Ends.{rows_through, rows_refused, room_refused, list_made}
use Rattle.read.proofs.read.Goals as goal

pub returns-in_err-rows_refusal : goal.returns-in_err-rows_refusal
returns-in_err-rows_refusal c =
    let p = err_from_is_err_and c.from_residual.result c.from_residual.ensures.1 in
    rw (p.1, p.2) (rows_refused _ _ _ _ _ c.in_err-rows_refusal.ensures)

pub invariant_of-rows : goal.invariant_of-rows
invariant_of-rows c = record { rows = rows_through _ _ _ (sym c.in_ok-rows_refusal.ensures) }

pub returns-then-not-has_room : goal.returns-then-not-has_room
returns-then-not-has_room c =
    rw c.into.ensures (room_refused _ _ _ _ (sym c.in_ok-rows_refusal.ensures) _ c.has_room.ensures c.if-not-has_room.true)

pub scan-requires : goal.scan-requires
scan-requires c = let rows = rows_through _ _ _ (sym c.in_ok-rows_refusal.ensures) in omega (arith, rows.short)

pub returns : goal.returns
returns c =
    list_made _ _ _ _ (sym c.in_ok-rows_refusal.ensures) _ c.has_room.ensures c.if-not-has_room.false _ _ (c.scan.ensures.0 ∙ zero-add _) c.scan.ensures.1
