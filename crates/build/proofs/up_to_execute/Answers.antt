-- `build::up_to_execute` meets its contract: S above EX, of a broadcast and of any other. Assumes nothing.
use Rattle.build.proofs.Columns.{num_byte}
use Rattle.build.proofs.Rows.{broadcast_bits, addressed_bits}
use Rattle.build.proofs.up_to_execute.Goals as goal

pub returns-then-ids-eq0 : goal.returns-then-ids-eq0
returns-then-ids-eq0 c = rw (c.from.ensures, num_byte) (broadcast_bits _ _ _ c.if-ids-eq0.true)

pub returns-else-ids-eq0 : goal.returns-else-ids-eq0
returns-else-ids-eq0 c = rw (c.from-else-ids-eq0.ensures, num_byte) (addressed_bits _ _ _ c.if-ids-eq0.false)
