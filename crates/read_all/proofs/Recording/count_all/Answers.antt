-- `read_all::Recording::count_all` meets its contract, job by job. Assumes nothing.
use mathlib.Core.Path.{refl, sym, ap, ◌∙◌}
use lib.ListN.{length}
use borrow.Author.Tests.{leb-true}
use Rattle.read_all.specs.ReadAll.{lists_of}
use Rattle.read_all.specs.Passes.{entries_of}
use Rattle.read_all.proofs.Passes.{opened_at, counted, has_room, no_room, room_for_all, not_nine, nine, room_enough}
use Rattle.read_all.proofs.Recording.count_all.Goals as goal

pub returns-then-room_for_columns : goal.returns-then-room_for_columns
returns-then-room_for_columns c =
    let a = c.args in
    room_enough a.self.cdm.now a.self.cds.now a.jobs.now a.room (leb-true _ _ (sym c.room_for_columns.ensures ∙ c.if-room_for_columns.true))

pub opened-requires : goal.opened-requires
opened-requires c = opened_at c.args.jobs.now c.loop-job.job-index c.loop-job-test.true c.args.self.cdm.now c.args.self.cds.now c.requires

pub returns-then-left-n : goal.returns-then-left-n
returns-then-left-n c =
    let a = c.args in
    let i = c.loop-job.job-index in
    let there = c.loop-job-test.true in
    let split = counted a.jobs.now i there a.self.cdm.now a.self.cds.now (c.count-n.ensures ∙ ap length c.opened.ensures) in
    nine a.self.cdm.now a.self.cds.now a.jobs.now a.room
    (no_room a.jobs.now i there (entries_of a.self.cdm.now a.self.cds.now) c.count-n.result split _ _ c.loop-job.invariant c.if-left-n.true)

pub loop-job-preserved : goal.loop-job-preserved
loop-job-preserved c =
    let a = c.args in
    let i = c.loop-job.job-index in
    let there = c.loop-job-test.true in
    let split = counted a.jobs.now i there a.self.cdm.now a.self.cds.now (c.count-n.ensures ∙ ap length c.opened.ensures) in
    has_room a.jobs.now i there (entries_of a.self.cdm.now a.self.cds.now) c.count-n.result split _ _ c.loop-job.invariant c.if-left-n.false

pub returns : goal.returns
unfolding lists_of
returns c =
    let a = c.args in
    not_nine a.self.cdm.now a.self.cds.now a.jobs.now a.room
    (room_for_all a.jobs.now c.loop-job.job-index c.loop-job-test.false (entries_of a.self.cdm.now a.self.cds.now) refl _ _ c.loop-job.invariant)
