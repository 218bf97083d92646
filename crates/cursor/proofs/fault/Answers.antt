-- `cursor::fault` meets its contract: at the end or before it. Assumes nothing.
use borrow.Author.Tests.{eq-eqb, ne_eqb}
use Rattle.protocol.specs.Fault.{fault_at}
use Rattle.cursor.proofs.Lines.{lacking_told}
use Rattle.cursor.proofs.fault.Goals as goal

pub returns-then-at-end : goal.returns-then-at-end
unfolding fault_at
returns-then-at-end c = rw (eq-eqb _ _ c.if-at-end.true) c.end_fault.ensures

pub returns-else-at-end : goal.returns-else-at-end
unfolding fault_at
returns-else-at-end c = rw (ne_eqb _ _ c.if-at-end.false, c.lacking.ensures, c.at.ensures, lacking_told)
