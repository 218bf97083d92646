-- The loop's invariant of `cursor::past_lines`: the lines that are left have the stop of all.
use mathlib.Core.Path.{◌≡◌}
use Prim.Native.Nat.{◌+◌, ◌*◌}
use lib.ListN.{drop}
use Rattle.protocol.specs.Fault.{stop}
use Rattle.cursor.proofs.past_lines.Given as goal

abbrev pub invariant-loop-i : goal.invariant-loop-i
invariant-loop-i l = stop (4 * l.i + 8) (drop (4 * l.i) l.bytes) ≡ stop 8 l.bytes
