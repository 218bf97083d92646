-- `read::rows_refusal` meets its contract, a law for each result. Assumes nothing.
use Rattle.std.proofs.lemmas.Result.{err_from_is_err_and}
use Rattle.read.proofs.Ends.{rows_wrong, opened_late, rows_good}
use Rattle.read.proofs.rows_refusal.Goals as goal

pub returns-in_err-wrong_rows : goal.returns-in_err-wrong_rows
returns-in_err-wrong_rows c =
    let p = err_from_is_err_and c.from_residual.result c.from_residual.ensures.1 in
    rw (p.1, p.2) (rows_wrong _ _ _ _ c.in_err-wrong_rows.ensures)

pub returns-then-cdm-opening : goal.returns-then-cdm-opening
returns-then-cdm-opening c = opened_late _ _ _ c.in_ok-wrong_rows.ensures c.if-cdm-opening.true

pub returns : goal.returns
returns c = rows_good _ _ _ c.in_ok-wrong_rows.ensures c.if-cdm-opening.false
