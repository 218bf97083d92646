-- `biss::biss_channel_of` meets its contract, case by case. Assumes nothing.
use Rattle.biss.specs.Coded.{code, channel_code}
use Rattle.biss.proofs.biss_channel_of.Goals as goal

pub returns-in-Ok-Some : goal.returns-in-Ok-Some
unfolding channel_code
returns-in-Ok-Some c = rw (← c.channel_of.ensures, c.in-Ok-Some.is, c.in-Ok-Some.field-0-is)

pub returns-in-Ok-None : goal.returns-in-Ok-None
unfolding channel_code
returns-in-Ok-None c = rw (← c.channel_of.ensures, c.in-Ok-None.is, c.in-Ok-None.field-0-is)

pub returns-in-Err : goal.returns-in-Err
unfolding channel_code code
returns-in-Err c = rw (← c.channel_of.ensures, c.in-Err.is, c.number.ensures)
