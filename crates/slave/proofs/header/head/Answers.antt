-- `slave::header::head` meets its contract, a law for each result. Assumes nothing.
use borrow.Author.Rules.{rules}
use Rattle.slave.proofs.Heads.{head_on, head_called}
use Rattle.slave.proofs.Turns.{quiet}
use Rattle.slave.proofs.header.head.Goals as goal

pub returns-then-header-lt-HEADER : goal.returns-then-header-lt-HEADER
returns-then-header-lt-HEADER c = quiet c.said.ensures (λ k s. search (head_on, rules))

pub returns-else-header-lt-HEADER : goal.returns-else-header-lt-HEADER
returns-else-header-lt-HEADER c =
    quiet c.said-else-header-lt-HEADER.ensures
    (λ k s. head_called k _ _ _ _ _ c.pushed-word.ensures.0 c.if-header-lt-HEADER.false c.called.ensures)
