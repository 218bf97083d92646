-- `run::count` meets its contract: a number that is no code changes no count. Assumes nothing.
use mathlib.Core.Path.{refl, sym}
use lib.Seq.{set_out}
use Rattle.protocol.specs.Memory.{one_more}
use Rattle.run.proofs.count.Goals as goal

pub returns-then-code-counts : goal.returns-then-code-counts
unfolding one_more
returns-then-code-counts c = rw c.in-Some.is refl

pub returns-else-code-counts : goal.returns-else-code-counts
unfolding one_more
returns-else-code-counts c = rw c.in-Some.is (sym (set_out _ _ _ c.if-code-counts.false))
