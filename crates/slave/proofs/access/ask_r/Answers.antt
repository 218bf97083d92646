-- `slave::access::ask_r` meets its contract. Assumes nothing.
use mathlib.Core.Path.{refl}
use Rattle.protocol.specs.Slave.{speak}
use Rattle.slave.proofs.Turns.{quiet}
use Rattle.slave.proofs.access.ask_r.Goals as goal

pub returns : goal.returns
unfolding speak
returns c = quiet c.said.ensures (λ k s. refl)
