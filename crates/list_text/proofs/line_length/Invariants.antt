-- The loop's invariant of `list_text::line_length`: what is counted and the fields that are left are the line.
use mathlib.Core.Path.{◌≡◌}
use Prim.Native.Nat.{◌+◌, ◌*◌, ◌≤◌}
use lib.ListN.{length, drop}
use Rattle.protocol.specs.Layout.{numbers}
use Rattle.protocol.specs.Text.{cells, entry_line}
use Rattle.lists.specs.Entries.{entry_of}
use Rattle.list_text.proofs.line_length.Given as goal

abbrev pub invariant-loop-i : goal.invariant-loop-i
invariant-loop-i l = record {
  counted : l.n + length (cells (entry_of l.fn.e) (drop l.i numbers)) ≡ length (entry_line (entry_of l.fn.e));
  small : l.n ≤ 8 + 6 * l.i;
}
