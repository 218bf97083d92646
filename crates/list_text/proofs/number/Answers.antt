-- `list_text::number` meets its contract: the field at that place. Assumes nothing.
use mathlib.Core.Path.{◌≡◌}
use native.Mathlib.Omega.{arith}
use borrow.Author.Rules.{rules}
use Rattle.list_text.proofs.number.Goals as goal

pub returns-in-2 : goal.returns-in-2
returns-in-2 c = rw c.in-2.is (search rules)

pub returns-in_default : goal.returns-in_default
returns-in_default c = let last : c.args.i ≡ 5 = omega arith in rw last (search rules)
