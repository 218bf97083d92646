-- `slave::header::locks` meets its contract, a law for each result. Assumes nothing.
use Rattle.slave.proofs.Heads.{locks_on, locks_end}
use Rattle.slave.proofs.Turns.{quiet}
use Rattle.slave.proofs.header.locks.Goals as goal

pub returns-then-header-lt-LOCK_LAST : goal.returns-then-header-lt-LOCK_LAST
returns-then-header-lt-LOCK_LAST c = quiet c.said.ensures (λ k s. rw c.min.ensures (locks_on k _ _ _ _ _ c.pushed.ensures.0 c.locked-lock.ensures c.if-header-lt-LOCK_LAST.true))

pub returns-else-header-lt-LOCK_LAST : goal.returns-else-header-lt-LOCK_LAST
returns-else-header-lt-LOCK_LAST c = quiet c.said-else-header-lt-LOCK_LAST.ensures (λ k s. rw c.min.ensures (locks_end k _ _ _ _ _ c.pushed.ensures.0 c.locked-lock.ensures c.if-header-lt-LOCK_LAST.false))
