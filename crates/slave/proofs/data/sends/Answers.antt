-- `slave::data::sends` meets its contract, a law for each result. Assumes nothing.
use Rattle.slave.proofs.Accesses.{sends_on, sends_last}
use Rattle.slave.proofs.Turns.{quiet}
use Rattle.slave.proofs.data.sends.Goals as goal

pub returns-then-left-eq0 : goal.returns-then-left-eq0
returns-then-left-eq0 c =
    let b = c.args.byte in
    quiet c.said.ensures (λ k s. rw c.passed.ensures (sends_last k b.address _ _ _ _ b.left c.if-left-eq0.true))

pub returns-else-left-eq0 : goal.returns-else-left-eq0
returns-else-left-eq0 c =
    let b = c.args.byte in
    quiet c.said-else-left-eq0.ensures (λ k s. sends_on k b.address _ _ _ _ b.left c.if-left-eq0.false)
