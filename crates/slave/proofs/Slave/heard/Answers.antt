-- `slave::Slave::heard` meets its contract: at rest a 1 is S, and elsewhere the zeros are counted. Assumes nothing.
use Rattle.protocol.specs.Rest.{judge}
use Rattle.slave.specs.Code.{heard_by}
use Rattle.slave.proofs.Silence.{other_counts, other_rests}
use Rattle.slave.proofs.Slave.heard.Goals as goal

pub returns-in-Some : goal.returns-in-Some
returns-in-Some c = other_counts _ _ _ _ c.in_default.not-Rest c.in-Some.ensures

pub returns-in-None : goal.returns-in-None
returns-in-None c = other_rests _ _ c.args.self.phase _ c.in_default.not-Rest c.in-None.ensures

pub returns-then-master : goal.returns-then-master
unfolding heard_by judge
returns-then-master c = rw (c.in-Rest.is, c.if-master.true, c.begun-self.ensures)

pub returns-else-master : goal.returns-else-master
unfolding heard_by judge
returns-else-master c = rw (c.in-Rest.is, c.if-master.false)
