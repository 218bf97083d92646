-- `read_all::Recording::write_all` meets its contract, job by job. Assumes nothing.
use native.Mathlib.Omega.{arith}
use Rattle.read_all.proofs.Passes.{opened_at, one_written, all_written}
use Rattle.read_all.proofs.Recording.write_all.Goals as goal

pub opened-requires : goal.opened-requires
opened-requires c = opened_at c.args.jobs.now c.loop-i.i c.loop-i-test.true c.args.self.cdm.now c.args.self.cds.now c.requires.0

pub scan-end-requires : goal.scan-end-requires
scan-end-requires c = omega (arith, c.opened.result.rows.short, c.loop-i.invariant.left, c.requires.1)

pub loop-i-preserved : goal.loop-i-preserved
loop-i-preserved c =
    let a = c.args in
    let i = c.loop-i.i in
    let there = c.loop-i-test.true in
    rw (c.scan-end.ensures.0, c.scan-end.ensures.1, c.opened.ensures) (one_written a.jobs.now i there c.loop-i.invariant)

pub returns : goal.returns
returns c = all_written c.args.jobs.now c.loop-i.i c.loop-i-test.false c.loop-i.invariant
