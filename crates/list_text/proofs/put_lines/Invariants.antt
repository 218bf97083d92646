-- The loop's invariant of `list_text::put_lines`: the lines that are left, laid on the buffer of now, are all the lines laid on the first
-- buffer.
use Rattle.protocol.specs.Text.{entry_lines}
use Rattle.lists.specs.Entries.{entries_left}
use Rattle.list_text.proofs.Parts.{Left}
use Rattle.list_text.proofs.put_lines.Given as goal

abbrev pub invariant-loop-e : goal.invariant-loop-e
invariant-loop-e l =
    Left (entry_lines (entries_left l.fn.list)) l.at l.fn.out (entry_lines (entries_left l.e-iterator)) l.p l.out
