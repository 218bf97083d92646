-- `read_all::wrong_lengths` meets its contract, case by case. Assumes nothing.
use borrow.Author.Tests.{eq-eqb, ne_eqb}
use Rattle.job.specs.Refusals.{first}
use Rattle.read_all.specs.Passes.{length_refusals}
use Rattle.read_all.proofs.wrong_lengths.Goals as goal

pub returns-then-counts-jobs : goal.returns-then-counts-jobs
unfolding length_refusals first
returns-then-counts-jobs c = rw (ne_eqb _ _ c.if-counts-jobs.true)

pub returns-then-columns-others : goal.returns-then-columns-others
unfolding length_refusals first
returns-then-columns-others c = rw (eq-eqb _ _ c.if-counts-jobs.false, ne_eqb _ _ c.if-columns-others.true)

pub returns-else-columns-others : goal.returns-else-columns-others
unfolding length_refusals first
returns-else-columns-others c = rw (eq-eqb _ _ c.if-counts-jobs.false, eq-eqb _ _ c.if-columns-others.false)
