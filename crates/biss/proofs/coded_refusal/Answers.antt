-- `biss::coded_refusal` meets its contract, case by case. Assumes nothing.
use Rattle.biss.specs.Coded.{code}
use Rattle.biss.proofs.coded_refusal.Goals as goal

pub returns-in-Alone : goal.returns-in-Alone
unfolding code
returns-in-Alone c = rw (c.in-Alone.is, c.number-number.ensures)

pub returns-in-OnLine : goal.returns-in-OnLine
unfolding code
returns-in-OnLine c = rw (c.in-OnLine.is, c.min.ensures, c.number-number.ensures)

pub returns-in-OfJob : goal.returns-in-OfJob
unfolding code
returns-in-OfJob c = rw (c.in-OfJob.is, c.min-in-OfJob.ensures, c.number-number.ensures)
