-- `biss::coded` meets its contract, case by case. Assumes nothing.
use Rattle.biss.specs.Coded.{code}
use Rattle.biss.proofs.coded.Goals as goal

pub returns-in-Ok : goal.returns-in-Ok
unfolding code
returns-in-Ok c = rw c.in-Ok.is

pub returns-in-Err : goal.returns-in-Err
returns-in-Err c = rw c.in-Err.is c.coded_refusal.ensures
