-- `run::run` meets its contract: refused with every lent byte and count as it was, or the row answered. Assumes nothing.
use mathlib.Core.Path.{sym}
use Rattle.std.proofs.lemmas.Result.{err_from_is_err_and}
use Rattle.run.proofs.Ends.{held, short_row, same_rows, ran_refused, ran_made}
use Rattle.run.proofs.run.Goals as goal

pub returns-in_err-refusal : goal.returns-in_err-refusal
returns-in_err-refusal c =
    let p = err_from_is_err_and c.from_residual.result c.from_residual.ensures.1 in
    rw (p.1, p.2) (ran_refused _ _ _ _ _ _ _ _ _ c.in_err-refusal.ensures)

pub answer_row-requires : goal.answer_row-requires
answer_row-requires c =
    let a = c.args in
    let e = sym c.in_ok-refusal.ensures in (
      held a.slaves a.banks.now a.registers.now a.rights.now a.waits.now a.counts.now a.cdm.now a.cds.now e,
      same_rows a.slaves a.banks.now a.registers.now a.rights.now a.waits.now a.counts.now a.cdm.now
          a.cds.now e,
      short_row a.slaves a.banks.now a.registers.now a.rights.now a.waits.now a.counts.now a.cdm.now
          a.cds.now e,
    )

pub returns : goal.returns
returns c =
    let row = c.answer_row in
    ran_made _ _ _ _ _ _ _ _ _ _ _ (sym c.in_ok-refusal.ensures) row.ensures
    row.auto.registers row.auto.counts row.auto.cds
