-- `read_all::Recording::judge_all` meets its contract: the first stretch that the reader refuses is told. Assumes nothing.
use mathlib.Core.Path.{sym}
use Rattle.job.specs.Refusals.{alone, number}
use Rattle.read_all.specs.ReadAll.{own_refusals}
use Rattle.read_all.proofs.Passes.{inside_at, goes_on, stops, none_found}
use Rattle.read_all.proofs.Recording.judge_all.Goals as goal

pub own_refusal-requires : goal.own_refusal-requires
own_refusal-requires c =
    let a = c.args in
    inside_at a.jobs.now c.loop-i.i c.loop-i-test.true a.self.cdm.now a.self.cds.now c.requires

pub returns-in-Err : goal.returns-in-Err
returns-in-Err c =
    stops c.args.jobs.now c.loop-i.i c.loop-i-test.true (own_refusals c.args.self.cdm.now c.args.self.cds.now) c.loop-i.invariant
    (number c.in-Err.reason) alone (sym c.in-Err.ensures)

pub loop-i-preserved : goal.loop-i-preserved
loop-i-preserved c =
    goes_on c.args.jobs.now c.loop-i.i c.loop-i-test.true (own_refusals c.args.self.cdm.now c.args.self.cds.now) c.loop-i.invariant (sym c.in_default.ensures)

pub returns : goal.returns
returns c =
    none_found c.args.jobs.now c.loop-i.i c.loop-i-test.false (own_refusals c.args.self.cdm.now c.args.self.cds.now) c.loop-i.invariant
