-- The loop's invariant of `list_text::room_left`: the room that is left is what all the lines leave, but for the lines that are left.
use mathlib.Core.Path.{◌≡◌}
use Prim.Native.Nat.{◌+◌}
use lib.ListN.{length}
use Rattle.protocol.specs.Text.{list_header, entry_lines}
use Rattle.lists.specs.Entries.{entries_left}
use Rattle.list_text.proofs.room_left.Given as goal

abbrev pub invariant-loop-e : goal.invariant-loop-e
invariant-loop-e l =
    l.left + length list_header + length (entry_lines (entries_left l.fn.list)) ≡ l.fn.room + length (entry_lines (entries_left l.e-iterator))
