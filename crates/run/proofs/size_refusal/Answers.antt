-- `run::size_refusal` meets its contract: each result is the definition at the branch's tests. Assumes nothing.
use Rattle.laws.proofs.Rules.{cases}
use Rattle.job.specs.Refusals.{first}
use Rattle.run.specs.Run.{size_refusals}
use Rattle.run.proofs.size_refusal.Goals as goal

pub returns-then-registers-bytes : goal.returns-then-registers-bytes
unfolding size_refusals first
returns-then-registers-bytes c = search cases

pub returns-then-rights-bytes : goal.returns-then-rights-bytes
unfolding size_refusals first
returns-then-rights-bytes c = search cases

pub returns-then-not-none_above : goal.returns-then-not-none_above
unfolding size_refusals first
returns-then-not-none_above c = rw (← c.none_above.ensures, c.if-not-none_above.true) (search cases)

pub returns-then-waits-slaves : goal.returns-then-waits-slaves
unfolding size_refusals first
returns-then-waits-slaves c = rw (← c.none_above.ensures, c.if-not-none_above.false) (search cases)

pub returns-then-counts-slaves : goal.returns-then-counts-slaves
unfolding size_refusals first
returns-then-counts-slaves c = rw (← c.none_above.ensures, c.if-not-none_above.false) (search cases)

pub returns-else-counts-slaves : goal.returns-else-counts-slaves
unfolding size_refusals first
returns-else-counts-slaves c =
    rw (← c.none_above.ensures, c.if-not-none_above.false, c.wrong_row.ensures) (search cases)
