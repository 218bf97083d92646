-- `slave::data::checked` meets its contract: a byte above its check bits is its word. Assumes nothing.
use native.Mathlib.Omega.{arith}
use Rattle.protocol.specs.Division.{word}
use Rattle.slave.proofs.data.checked.Goals as goal

pub returns : goal.returns
unfolding word
returns c = let is = c.byte_check.ensures in omega arith
