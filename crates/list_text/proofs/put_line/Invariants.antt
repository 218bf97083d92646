-- The loop's invariant of `list_text::put_line`: the fields that are left, laid on the buffer of now, are the line laid on the first one.
use lib.ListN.{drop}
use Rattle.protocol.specs.Layout.{numbers}
use Rattle.protocol.specs.Text.{cells, entry_line}
use Rattle.lists.specs.Entries.{entry_of}
use Rattle.list_text.proofs.Parts.{Left}
use Rattle.list_text.proofs.put_line.Given as goal

abbrev pub invariant-loop-i : goal.invariant-loop-i
invariant-loop-i l =
    Left (entry_line (entry_of l.fn.e)) l.at l.fn.out (cells (entry_of l.fn.e) (drop l.i numbers)) l.p l.out
