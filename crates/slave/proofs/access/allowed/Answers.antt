-- `slave::access::allowed` meets its contract: a write looks at the right's high bit, a read at its low bit. Assumes nothing.
use native.Mathlib.Nat.{div-one}
use Rattle.protocol.specs.Bits.{bit}
use Rattle.slave.proofs.access.allowed.Goals as goal

pub returns-then-write : goal.returns-then-write
unfolding bit
returns-then-write c = rw c.if-write.true

pub returns-else-write : goal.returns-else-write
unfolding bit
returns-else-write c = rw (c.if-write.false, div-one)
