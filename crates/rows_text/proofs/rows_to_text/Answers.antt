-- `rows_text::rows_to_text` meets its contract: the header, and then the columns' lines. Assumes nothing.
use mathlib.Core.Path.{sym}
use native.Mathlib.Omega.{arith}
use borrow.Author.Rules.{rules}
use Rattle.std.proofs.lemmas.Result.{err_from_is_err_and}
use Rattle.job.specs.declared.Detail.TheVariants.{Alone}
use Rattle.job.proofs.Refusals.{ended_refused}
use Rattle.print.proofs.Ends.{printed_made}
use Rattle.print.proofs.Laid.{then, laid_length}
use Rattle.protocol.specs.Text.{rows_text}
use Rattle.rows_text.proofs.Columns.{text_length}
use Rattle.rows_text.proofs.Ends.{rows_pass}
use Rattle.rows_text.proofs.rows_to_text.Goals as goal

pub returns-in_err-refusal : goal.returns-in_err-refusal
returns-in_err-refusal c =
    let p = err_from_is_err_and c.from_residual.result c.from_residual.ensures.1 in
    rw (p.1, p.2) (ended_refused _ _ _ (record { reason = c.in_err-refusal.field-0.0; beside = Alone }) (sym c.in_err-refusal.ensures))

pub put_bytes-p-requires : goal.put_bytes-p-requires
put_bytes-p-requires c = let pass = rows_pass _ _ _ c.in_ok-refusal.ensures in omega (arith, pass.1)

pub put_columns-requires : goal.put_columns-requires
put_columns-requires c =
    let pass = rows_pass _ _ _ c.in_ok-refusal.ensures in
    let kept = laid_length c.put_bytes-p.ensures in
    (search rules, pass.0.same, pass.0.cdm_bits, pass.0.cds_bits)

pub returns : goal.returns
unfolding rows_text
returns c =
    let pass = rows_pass _ _ _ c.in_ok-refusal.ensures in
    let long = text_length c.args.cdm.now c.args.cds.now pass.0.same in
    printed_made _ _ _ (sym c.in_ok-refusal.ensures) (omega (arith, long, pass.1)) (then c.put_bytes-p.ensures c.put_columns.ensures)
