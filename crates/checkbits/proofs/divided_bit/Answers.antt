-- `checkbits::divided_bit` meets its contract: its two branches are the definition's. Assumes nothing.
use native.Mathlib.Omega.{arith}
use borrow.Author.Tests.{lt-ltb, le-ltb}
use Rattle.checkbits.proofs.Bitwise.{one_bit}
use Rattle.checkbits.proofs.Words.{bool_lt}
use Rattle.checkbits.proofs.divided_bit.Goals as goal

pub overflow_mul-raised-2 : goal.overflow_mul-raised-2
overflow_mul-raised-2 c = omega (arith, bool_lt c.args.bit)

pub overflow_add-raised : goal.overflow_add-raised
overflow_add-raised c = omega (arith, bool_lt c.args.bit)

pub returns-then-raised-lt16 : goal.returns-then-raised-lt16
returns-then-raised-lt16 c = rw (lt-ltb _ _ c.if-raised-lt16.true) at (one_bit _ c.args.bit c.requires)

pub returns-else-raised-lt16 : goal.returns-else-raised-lt16
returns-else-raised-lt16 c = rw (le-ltb _ _ c.if-raised-lt16.false) at (one_bit _ c.args.bit c.requires)
