-- `job::wrong_row` meets its contract: the lengths, then the bytes. Assumes nothing.
use mathlib.Core.Path.{◌∙◌}
use Rattle.std.proofs.lemmas.Result.{err_from_is_err_and}
use Rattle.job.specs.Rows.{wrong_row}
use Rattle.job.proofs.Rows.{decided_before, decided_by_bytes}
use Rattle.job.proofs.wrong_row.Goals as goal

pub returns-in_err-wrong_lengths : goal.returns-in_err-wrong_lengths
unfolding wrong_row
returns-in_err-wrong_lengths c =
    let p = err_from_is_err_and c.from_residual.result c.from_residual.ensures.1 in
    rw (p.1, p.2) (decided_before _ _ _ _ _ c.in_err-wrong_lengths.ensures)

pub returns : goal.returns
unfolding wrong_row
returns c = c.wrong_bytes.ensures ∙ decided_by_bytes _ _ _ _ c.in_ok-wrong_lengths.ensures
