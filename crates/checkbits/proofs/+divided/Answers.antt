-- `checkbits::divided` meets its contract: it takes one bit and then the rest, and fewer bits are left each time. Assumes nothing.
use mathlib.Core.Path.{refl}
use borrow.Author.Rules.{rules}
use Rattle.protocol.specs.Division.{divide}
use Rattle.checkbits.proofs.Bitwise.{then_the_rest}
use Rattle.checkbits.proofs.+divided.Goals as goal

pub returns-then-left-eq0 : goal.returns-then-left-eq0
unfolding divide
returns-then-left-eq0 t c = rw c.if-left-eq0.true (refl, search rules)

pub returns-else-left-eq0 : goal.returns-else-left-eq0
returns-else-left-eq0 t c =
    (rw (c.divided.ensures.0, c.divided_bit.ensures.0) (then_the_rest _ _ _ _ _ c.if-left-eq0.false), search rules)
