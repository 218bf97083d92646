-- `report::whole` meets its contract. Assumes nothing.
use mathlib.Core.Path.{refl}
use Rattle.report.proofs.Lines.{crowded, roomy}
use Rattle.report.proofs.whole.Goals as goal

pub returns-then-out-text : goal.returns-then-out-text
returns-then-out-text c = crowded _ _ c.if-out-text.true _ (rw c.into.ensures refl)

pub returns : goal.returns
returns c = roomy _ _ c.if-out-text.false c.put_bytes.ensures
