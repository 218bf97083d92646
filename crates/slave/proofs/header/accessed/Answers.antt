-- `slave::header::accessed` meets its contract: the slave of the ID is asked, any other is deaf. Assumes nothing.
use borrow.Author.Tests.{eq-eqb, ne_eqb}
use native.Mathlib.Nat.{mod-mod}
use Rattle.protocol.specs.Slave.{called}
use Rattle.slave.proofs.header.accessed.Goals as goal

pub returns-in-Some : goal.returns-in-Some
unfolding called
returns-in-Some c = rw (c.in-Some.is, eq-eqb _ _ c.if-own-value.true, mod-mod c.args.value 128)

pub returns-in_default : goal.returns-in_default
unfolding called
returns-in_default c = rw (c.in-Some.is, ne_eqb _ _ c.if-own-value.false)

pub returns-in_default-2 : goal.returns-in_default-2
unfolding called
returns-in_default-2 c = rw c.in_default.is
