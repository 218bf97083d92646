-- The loop's invariant of `cursor::formed`: what is left has the stop of all.
use mathlib.Core.Path.{◌≡◌}
use Prim.Native.Nat.{◌+◌}
use lib.ListN.{drop}
use Rattle.protocol.specs.Fault.{stop}
use Rattle.cursor.proofs.formed.Given as goal

abbrev pub invariant-loop-i : goal.invariant-loop-i
invariant-loop-i l = stop (l.i + l.before) (drop l.i l.piece) ≡ stop l.before l.piece
