-- `rows_text::put_rows` meets its contract. Assumes nothing.
use mathlib.Core.Path.{sym, ◌∙◌}
use Rattle.rows_text.proofs.Columns.{bit_laid, no_bit}
use Rattle.rows_text.proofs.put_rows.Goals as goal

pub loop-k-preserved : goal.loop-k-preserved
loop-k-preserved c =
    let l = c.loop-k in
    let lines = c.args.lines.now in
    (bit_laid lines l.cdm l.k 0 c.loop-k-test.true ∙ l.invariant.0, bit_laid lines l.cds l.k 2 c.loop-k-test.true ∙ l.invariant.1)

pub returns : goal.returns
returns c =
    let l = c.loop-k in
    let lines = c.args.lines.now in
    record {
      cdm = sym (no_bit lines l.cdm l.k 0 c.loop-k-test.false) ∙ l.invariant.0;
      cds = sym (no_bit lines l.cds l.k 2 c.loop-k-test.false) ∙ l.invariant.1;
    }
