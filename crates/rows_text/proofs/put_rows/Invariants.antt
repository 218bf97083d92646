-- The loop's invariant of `rows_text::put_rows`: the bits that are left, laid on the rows of now, are all the bits laid on the first rows.
use mathlib.Core.List.{map}
use mathlib.Core.Path.{◌≡◌}
use lib.ListN.{drop}
use lib.Seq.{sets}
use Rattle.rows_text.specs.RowsText.{bit_at}
use Rattle.rows_text.proofs.put_rows.Given as goal

abbrev pub invariant-loop-k : goal.invariant-loop-k
invariant-loop-k l =
    (sets l.cdm l.k (map (bit_at 0) (drop l.k l.lines)) ≡ sets l.initial.cdm 0 (map (bit_at 0) l.lines))
    × (sets l.cds l.k (map (bit_at 2) (drop l.k l.lines)) ≡ sets l.initial.cds 0 (map (bit_at 2) l.lines))
