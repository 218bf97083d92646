-- `read_all::room_for_columns` meets its contract, job by job. Assumes nothing.
use mathlib.Core.Path.{refl}
use borrow.Author.Tests.{le-true, lt-false}
use Rattle.read_all.specs.Passes.{columns_of}
use Rattle.read_all.proofs.Passes.{with_these, has_room, no_room, room_for_all}
use Rattle.read_all.proofs.room_for_columns.Goals as goal

pub returns-then-left-job : goal.returns-then-left-job
returns-then-left-job c =
    let jobs = c.args.jobs.now in
    let fewer =
    no_room jobs c.loop-job.job-index c.loop-job-test.true columns_of _ (with_these jobs c.loop-job.job-index c.loop-job-test.true)
    _ _ c.loop-job.invariant c.if-left-job.true in
    lt-false _ _ fewer

pub loop-job-preserved : goal.loop-job-preserved
loop-job-preserved c =
    let jobs = c.args.jobs.now in
    has_room jobs c.loop-job.job-index c.loop-job-test.true columns_of _ (with_these jobs c.loop-job.job-index c.loop-job-test.true)
    _ _ c.loop-job.invariant c.if-left-job.false

pub returns : goal.returns
unfolding columns_of
returns c =
    le-true _ _ (room_for_all c.args.jobs.now c.loop-job.job-index c.loop-job-test.false columns_of refl _ _ c.loop-job.invariant)
