-- The loop's invariant of `argument::number`: what is left of the argument asks, behind the number so far, what the whole argument asks.
use mathlib.Core.Path.{◌≡◌}
use Prim.Native.Nat.{◌≤◌}
use lib.ListN.{drop}
use Rattle.argument.specs.Argument.{farthest, asked_from}
use Rattle.argument.proofs.number.Given as goal

abbrev pub invariant-loop-byte : goal.invariant-loop-byte
invariant-loop-byte l = (l.n ≤ farthest) × (asked_from l.n (drop l.byte-index l.argument) ≡ asked_from 0 l.argument)
