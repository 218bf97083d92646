-- `read_all::place_all` meets its contract: the first stretch outside the rows is told. Assumes nothing.
use mathlib.Core.Path.{sym, ◌∙◌}
use Rattle.job.specs.Refusals.{alone, first}
use Rattle.read_all.specs.ReadAll.{place_refusals}
use Rattle.read_all.proofs.Passes.{goes_on, stops, none_found}
use Rattle.read_all.proofs.place_all.Goals as goal

pub returns-then-outside : goal.returns-then-outside
unfolding place_refusals first
returns-then-outside c =
    stops c.args.jobs.now c.loop-i.i c.loop-i-test.true (place_refusals c.args.columns) c.loop-i.invariant 20 alone
    (rw (sym c.outside.ensures ∙ c.if-outside.true))

pub loop-i-preserved : goal.loop-i-preserved
unfolding place_refusals first
loop-i-preserved c =
    goes_on c.args.jobs.now c.loop-i.i c.loop-i-test.true (place_refusals c.args.columns) c.loop-i.invariant
    (rw (sym c.outside.ensures ∙ c.if-outside.false))

pub returns : goal.returns
returns c = none_found c.args.jobs.now c.loop-i.i c.loop-i-test.false (place_refusals c.args.columns) c.loop-i.invariant
