-- `list_text::put_field` meets its contract: a TAB, and the digits or `-`. Assumes nothing.
use native.Mathlib.Omega.{arith}
use Rattle.protocol.specs.Text.{field}
use Rattle.list_text.proofs.put_field.Goals as goal

pub put_number-requires : goal.put_number-requires
unfolding field
put_number-requires c = let room = rw c.in-Some.is at c.requires in omega arith

pub put_bytes-requires : goal.put_bytes-requires
unfolding field
put_bytes-requires c = let room = rw c.in-None.is at c.requires in omega arith

pub returns-in-Some : goal.returns-in-Some
unfolding field
returns-in-Some c = rw c.in-Some.is c.put_number.ensures

pub returns-in-None : goal.returns-in-None
unfolding field
returns-in-None c = rw c.in-None.is c.put_bytes.ensures
