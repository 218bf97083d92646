-- `job::wrong_rows` meets its contract: the master row, then the answers' bytes. Assumes nothing.
use mathlib.Core.Path.{◌∙◌}
use Rattle.std.proofs.lemmas.Result.{err_from_is_err_and}
use Rattle.job.specs.Rows.{wrong_row, wrong_rows}
use Rattle.job.proofs.Rows.{decided_before, decided_by_bytes}
use Rattle.job.proofs.wrong_rows.Goals as goal

pub returns-in_err-wrong_row : goal.returns-in_err-wrong_row
unfolding wrong_row wrong_rows
returns-in_err-wrong_row c =
    let p = err_from_is_err_and c.from_residual.result c.from_residual.ensures.1 in
    rw (p.1, p.2) (decided_before _ _ _ _ _ c.in_err-wrong_row.ensures)

pub returns : goal.returns
unfolding wrong_row wrong_rows
returns c = c.wrong_bytes.ensures ∙ decided_by_bytes _ _ _ _ c.in_ok-wrong_row.ensures
