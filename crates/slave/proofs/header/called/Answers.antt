-- `slave::header::called` meets its contract: a wrong check, an access, a command. Assumes nothing.
use borrow.Author.Tests.{eq-eqb, ne_eqb}
use Rattle.protocol.specs.Bits.{bit}
use Rattle.protocol.specs.Header.{header}
use Rattle.protocol.specs.Slave.{called}
use Rattle.slave.proofs.header.called.Goals as goal

pub returns-then-not-header_fits : goal.returns-then-not-header_fits
unfolding called header bit
returns-then-not-header_fits c = rw (← c.header_fits.ensures, c.if-not-header_fits.true)

pub returns-then-value-eq1 : goal.returns-then-value-eq1
unfolding header bit
returns-then-value-eq1 c =
    rw (← c.header_fits.ensures, c.if-not-header_fits.false, eq-eqb _ _ c.if-value-eq1.true) c.accessed.ensures

pub returns-else-value-eq1 : goal.returns-else-value-eq1
unfolding called header bit
returns-else-value-eq1 c = rw (← c.header_fits.ensures, c.if-not-header_fits.false, ne_eqb _ _ c.if-value-eq1.false)
