-- The loop's invariant of `build::Access::put_bytes`: the bytes that are left, laid on the buffer of now, are all the bytes laid on the
-- first buffer.
use Rattle.build.proofs.Rows.{Laying}
use Rattle.build.proofs.Access.put_bytes.Given as goal

abbrev pub invariant-loop-nth : goal.invariant-loop-nth
invariant-loop-nth g l = Laying g.B.Bytes.written l.self.wait (g.B.Bytes.twelves l.self.bytes) 32 l.initial.out l.nth l.at l.out
