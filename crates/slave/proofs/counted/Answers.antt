-- `slave::counted` meets its contract: protocol's timer. Assumes nothing.
use Rattle.slave.proofs.Turns.{timer_is}
use Rattle.slave.proofs.counted.Goals as goal

pub returns : goal.returns
returns c = rw c.then_some.ensures (timer_is c.args.zeros c.args.master c.counted-zeros.ensures)
