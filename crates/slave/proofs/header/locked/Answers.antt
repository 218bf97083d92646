-- `slave::header::locked` meets its contract, a law for each result. Assumes nothing.
use Rattle.slave.proofs.Heads.{lock_holds, lock_passes, lock_before, lock_takes, lock_past}
use Rattle.slave.proofs.header.locked.Goals as goal

pub returns-in-Some : goal.returns-in-Some
returns-in-Some c = lock_holds _ _ c.in-Some.is

pub returns-in-None : goal.returns-in-None
returns-in-None c = lock_passes _ c.in-None.is c.if-far.true

pub returns-in-None-2 : goal.returns-in-None-2
returns-in-None-2 c = lock_before _ c.in-None-2.is c.if-far.false c.if-column-lt-LOCK_FIRST.true

pub returns-in-None-3 : goal.returns-in-None-3
returns-in-None-3 c = lock_takes _ c.in-None-3.is c.if-far.false c.if-column-lt-LOCK_FIRST.false c.if-column-lt-LOCK_LAST.true

pub returns-in-None-4 : goal.returns-in-None-4
returns-in-None-4 c = lock_past _ c.in-None-4.is c.if-far.false c.if-column-lt-LOCK_LAST.false
