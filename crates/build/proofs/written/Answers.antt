-- `build::written` meets its contract: S, the byte's word and P. Assumes nothing.
use native.Mathlib.Omega.{arith}
use Rattle.build.proofs.Rows.{write_word}
use Rattle.build.proofs.written.Goals as goal

pub returns : goal.returns
returns c = rw c.byte_check.ensures (write_word c.args.b (omega arith))
