-- `rows_text::put_columns` meets its contract. Assumes nothing.
use mathlib.Core.Logic.{inl, inr}
use mathlib.Core.Path.{◌≡◌, sym, ap, ◌∙◌}
use native.Mathlib.Omega.{arith}
use lib.ListN.{length}
use lib.Seq.{sets}
use Rattle.std.specs.Iterator.Adapters.{zip_first, zip_second}
use Rattle.std.specs.Slice.Iter.{iter_rest}
use Rattle.protocol.specs.Text.{column_lines}
use Rattle.print.proofs.Laid.{part_laid}
use Rattle.rows_text.proofs.Columns.{bit_more, column_more, column_none, lines_length}
use Rattle.rows_text.proofs.put_columns.Goals as goal

pub put_column-p-requires : goal.put_column-p-requires
put_column-p-requires c =
    let l = c.loop-m in
    let left = c.in-Some.ensures.steps in
    (omega (arith, ap length left.0), (bit_more _ _ _ l.invariant.cdm_bits left.0).0, (bit_more _ _ _ l.invariant.cds_bits left.1).0)

pub loop-m-preserved : goal.loop-m-preserved
loop-m-preserved c =
    let l = c.loop-m in
    let left = c.in-Some.ensures.steps in
    let put = c.put_column-p.ensures in
    record {
      place = omega (arith, put.behind, ap length left.0);
      same = omega (arith, ap length left.0, ap length left.1);
      cdm_bits = (bit_more _ _ _ l.invariant.cdm_bits left.0).1;
      cds_bits = (bit_more _ _ _ l.invariant.cds_bits left.1).1;
      laid = part_laid put (column_lines (iter_rest (zip_first c.next.new.self)) (iter_rest (zip_second c.next.new.self)))
          ∙ ap (sets l.out l.p) (sym (column_more _ _ _ _ _ _ left.0 left.1)) ∙ l.invariant.laid;
    }

pub returns : goal.returns
returns c =
    let l = c.loop-m in
    let none : length (iter_rest (zip_first l.m-iterator)) ≡ 0
    = elim c.in-None.ensures.steps [ inl h ↦ h.1.0 | inr h ↦ omega (arith, l.invariant.same, h.1.0) ] in
    record {
      behind = omega (arith, l.invariant.place, lines_length c.args.cdm.now c.args.cds.now c.requires.1);
      laid = ap (sets l.out l.p) (sym (column_none _ _ none)) ∙ l.invariant.laid;
    }
