-- `slave::phase::Phase::speak` meets its contract: each phase's function does its phase. Assumes nothing.
use mathlib.Core.Path.{refl}
use Rattle.protocol.specs.Slave.{speak}
use Rattle.slave.proofs.Turns.{quiet}
use Rattle.slave.proofs.phase.Phase.speak.Goals as goal

pub returns-in-Deaf : goal.returns-in-Deaf
unfolding speak
returns-in-Deaf c = rw c.in-Deaf.is (quiet c.said.ensures (λ k s. refl))

pub returns-in-Locks : goal.returns-in-Locks
returns-in-Locks c = rw c.in-Locks.is c.locks.ensures

pub returns-in-Head : goal.returns-in-Head
returns-in-Head c = rw c.in-Head.is c.head.ensures

pub returns-in-AskR : goal.returns-in-AskR
returns-in-AskR c = rw c.in-AskR.is c.ask_r.ensures

pub returns-in-AskW : goal.returns-in-AskW
returns-in-AskW c = rw c.in-AskW.is c.ask_w.ensures

pub returns-in-ByteS : goal.returns-in-ByteS
returns-in-ByteS c = rw c.in-ByteS.is c.byte_s.ensures

pub returns-in-Sends : goal.returns-in-Sends
returns-in-Sends c = rw c.in-Sends.is c.sends.ensures

pub returns-in-Takes : goal.returns-in-Takes
returns-in-Takes c = rw c.in-Takes.is c.takes.ensures

pub returns-in-AskP : goal.returns-in-AskP
returns-in-AskP c = rw c.in-AskP.is c.ask_p.ensures

pub returns-in-Acknowledge : goal.returns-in-Acknowledge
returns-in-Acknowledge c = rw c.in-Acknowledge.is c.acknowledge.ensures

pub returns-in-AskEX : goal.returns-in-AskEX
returns-in-AskEX c = rw c.in-AskEX.is c.ask_ex.ensures
