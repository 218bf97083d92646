-- `rows_text::refusal` meets its contract: the rows, and then the room. Assumes nothing.
use mathlib.Core.Path.{sym}
use borrow.Author.Rules.{rules}
use Rattle.std.proofs.lemmas.Result.{err_from_is_err_and}
use Rattle.job.proofs.Rows.{right_rows}
use Rattle.rows_text.proofs.Ends.{rows_wrong, rows_nine, rows_none}
use Rattle.rows_text.proofs.refusal.Goals as goal

pub returns-in_err-wrong_rows : goal.returns-in_err-wrong_rows
returns-in_err-wrong_rows c =
    let p = err_from_is_err_and c.from_residual.result c.from_residual.ensures.1 in
    rw (p.1, p.2) (rows_wrong _ _ _ _ c.in_err-wrong_rows.ensures)

pub overflow_mul-cdm : goal.overflow_mul-cdm
overflow_mul-cdm c = let right = right_rows _ _ (sym c.in_ok-wrong_rows.ensures) in search rules

pub overflow_add-cdm : goal.overflow_add-cdm
overflow_add-cdm c = let right = right_rows _ _ (sym c.in_ok-wrong_rows.ensures) in search rules

pub returns-then-room-cdm : goal.returns-then-room-cdm
returns-then-room-cdm c = rows_nine _ _ _ c.in_ok-wrong_rows.ensures c.if-room-cdm.true

pub returns : goal.returns
returns c = rows_none _ _ _ c.in_ok-wrong_rows.ensures c.if-room-cdm.false
