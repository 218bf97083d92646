-- `slave::Slave::step` meets its contract: the zeros counted, a column is the phase's, or the fourteenth zero. Assumes nothing.
use mathlib.Core.Path.{refl}
use Rattle.slave.proofs.Turns.{steps_unframed, steps_on_unstored, steps_end}
use Rattle.slave.proofs.Slave.step.Goals as goal

pub returns-in-Some : goal.returns-in-Some
returns-in-Some c = steps_on_unstored c.args.self _ _ c.in-Frame.is (rw c.in-Frame.is refl) c.in-Some.ensures c.speak-next.ensures

pub returns-in-None : goal.returns-in-None
returns-in-None c = steps_end c.args.self _ _ c.in-Frame.is refl c.in-None.ensures c.passed_on.ensures

pub returns-in_default : goal.returns-in_default
returns-in_default c = steps_unframed c.args.self _ _ c.in_default.not-Frame c.heard.ensures c.passed_on-in_default.ensures
