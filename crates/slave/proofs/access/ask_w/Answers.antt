-- `slave::access::ask_w` meets its contract, a law for each result. Assumes nothing.
use Rattle.slave.proofs.Accesses.{ask_alike, ask_allowed, ask_refused}
use Rattle.slave.proofs.Turns.{quiet}
use Rattle.slave.proofs.access.ask_w.Goals as goal
use Rattle.slave.proofs.access.ask_w.Goals.{else-r-seen-via-then-r-seen+else-allowed, else-r-seen-via-else-r-seen}

pub returns-then-allowed : goal.returns-then-allowed
returns-then-allowed c =
    let a = c.args in quiet c.said.ensures (λ k s. ask_allowed k _ a.r _ a.seen s c.if-r-seen.true c.allowed.ensures c.if-allowed.true)

pub returns-else-r-seen : goal.returns-else-r-seen
returns-else-r-seen c =
    let a = c.args in
    quiet c.said-else-r-seen.ensures
    (λ k s.
    elim c.else-r-seen.branch [
      | else-r-seen-via-then-r-seen+else-allowed w ↦ ask_refused k _ a.r _ a.seen s w.if-r-seen.true w.allowed.ensures w.if-allowed.false
      | else-r-seen-via-else-r-seen w ↦ ask_alike k _ a.r _ _ w.if-r-seen.false
    ])
