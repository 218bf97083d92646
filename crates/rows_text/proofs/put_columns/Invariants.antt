-- The loop's invariant of `rows_text::put_columns`: the lines of what is left of the rows, laid on the buffer of now, are all the lines laid
-- on the first buffer.
use mathlib.Core.Bool.{true}
use mathlib.Core.Path.{◌≡◌}
use Prim.Native.Nat.{◌+◌, ◌*◌}
use lib.ListN.{length}
use lib.Seq.{sets}
use Rattle.std.specs.Iterator.Adapters.{zip_first, zip_second}
use Rattle.std.specs.Slice.Iter.{iter_rest}
use Rattle.protocol.specs.Text.{column_lines}
use Rattle.job.specs.Bytes.{are_bits}
use Rattle.rows_text.proofs.put_columns.Given as goal

abbrev pub invariant-loop-m : goal.invariant-loop-m
invariant-loop-m l =
    let cdm = iter_rest (zip_first l.m-iterator) in
    let cds = iter_rest (zip_second l.m-iterator) in
    record {
      place : l.p + 4 * length cdm ≡ l.at + 4 * length l.cdm;
      same : length cdm ≡ length cds;
      cdm_bits : are_bits cdm ≡ true;
      cds_bits : are_bits cds ≡ true;
      laid : sets l.out l.p (column_lines cdm cds) ≡ sets l.initial.out l.at (column_lines l.cdm l.cds);
    }
