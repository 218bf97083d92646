-- The loop's invariant of `print::put_bytes`: the bytes that are left, laid on the buffer of now, are all the bytes laid on the first
-- buffer.
use mathlib.Core.Path.{◌≡◌}
use Prim.Native.Nat.{◌+◌}
use lib.ListN.{length, drop}
use lib.Seq.{sets}
use Rattle.print.proofs.put_bytes.Given as goal

abbrev pub invariant-loop-j : goal.invariant-loop-j
invariant-loop-j l =
    (length l.out ≡ length l.initial.out) × (sets l.out (l.at + l.j) (drop l.j l.bytes) ≡ sets l.initial.out l.at l.bytes)
