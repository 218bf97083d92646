-- `checkbits::pushed` meets its contract: the last fifteen bits one place up, and the new one. Assumes nothing.
use native.Mathlib.Omega.{arith}
use Rattle.checkbits.proofs.Words.{bool_lt, pushed_is}
use Rattle.checkbits.proofs.pushed.Goals as goal

pub overflow_add-result : goal.overflow_add-result
overflow_add-result c = omega (arith, bool_lt c.args.bit)

pub returns : goal.returns
returns c = (pushed_is _ _, omega (arith, bool_lt c.args.bit))
