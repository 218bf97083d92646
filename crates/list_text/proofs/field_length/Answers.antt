-- `list_text::field_length` meets its contract: a TAB, and the digits or `-`. Assumes nothing.
use native.Mathlib.Omega.{arith}
use Rattle.protocol.specs.Text.{field}
use Rattle.list_text.proofs.field_length.Goals as goal

pub returns-in-Some : goal.returns-in-Some
unfolding field
returns-in-Some c = rw c.in-Some.is (omega arith, omega arith)

pub returns-in-None : goal.returns-in-None
unfolding field
returns-in-None c = rw c.in-None.is (omega arith, omega arith)
