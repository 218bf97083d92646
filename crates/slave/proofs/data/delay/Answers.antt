-- `slave::data::delay` meets its contract: the first byte of a write does not wait, and any other does. Assumes nothing.
use native.Mathlib.Omega.{arith}
use borrow.Author.Rules.{rules}
use borrow.Author.Tests.{eq-eqb, ne_eqb}
use Rattle.protocol.specs.Memory.{delay_by}
use Rattle.slave.proofs.data.delay.Goals as goal
use Rattle.slave.proofs.data.delay.Goals.{else-write-via-then-write+else-nth-eq1, else-write-via-else-write}

pub returns-then-nth-eq1 : goal.returns-then-nth-eq1
unfolding delay_by
returns-then-nth-eq1 c = (rw (c.if-write.true, eq-eqb _ _ c.if-nth-eq1.true), omega arith)

pub returns-else-write : goal.returns-else-write
unfolding delay_by
returns-else-write c =
    elim c.else-write.branch [
      | else-write-via-then-write+else-nth-eq1 w ↦ (rw (w.if-write.true, ne_eqb _ _ w.if-nth-eq1.false), search rules)
      | else-write-via-else-write w ↦ (rw w.if-write.false, search rules)
    ]
