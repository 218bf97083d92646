-- The loop's invariant of `build::put_bits`: the bits that are left, laid on the buffer of now, are all the bits laid on the first buffer.
use mathlib.Core.List.{map}
use mathlib.Core.Path.{◌≡◌}
use Prim.Native.Nat.{◌+◌, ◌-◌}
use lib.Seq.{sets}
use Rattle.protocol.specs.Bits.{num, bits}
use Rattle.build.proofs.put_bits.Given as goal

abbrev pub invariant-loop-place : goal.invariant-loop-place
invariant-loop-place l = sets l.out (l.at + l.place) (map num (bits (l.n - l.place) l.w)) ≡ sets l.initial.out l.at (map num (bits l.n l.w))
