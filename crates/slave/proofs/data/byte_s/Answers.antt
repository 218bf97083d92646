-- `slave::data::byte_s` meets its contract, a law for each result. Assumes nothing.
use borrow.Author.Rules.{rules}
use borrow.Author.Tests.{not-false}
use Rattle.slave.proofs.Accesses.{byte_ends, byte_waits, byte_takes, byte_sends}
use Rattle.slave.proofs.Turns.{quiet}
use Rattle.slave.proofs.data.byte_s.Goals as goal

pub returns-then-not-seen : goal.returns-then-not-seen
returns-then-not-seen c = quiet c.said.ensures (λ k s. search (byte_ends, rules))

pub returns-then-asked-delay : goal.returns-then-asked-delay
returns-then-asked-delay c = quiet c.said-then-asked-delay.ensures (λ k s. byte_waits k _ _ _ _ _ c.args.seen s (not-false _ c.if-not-seen.false) c.delay.ensures.0 c.if-asked-delay.true)

pub returns-then-write : goal.returns-then-write
returns-then-write c = quiet c.said-then-write.ensures (λ k s. rw c.confirmed.ensures (byte_takes k _ _ _ _ _ c.args.seen s (not-false _ c.if-not-seen.false) c.delay.ensures.0 c.if-asked-delay.false c.if-write.true))

pub returns-else-write : goal.returns-else-write
returns-else-write c = quiet c.said-else-write.ensures (λ k s. rw c.confirmed-else-write.ensures (byte_sends k _ _ _ _ _ c.args.seen s (not-false _ c.if-not-seen.false) c.delay.ensures.0 c.if-asked-delay.false c.if-write.false c.checked.ensures))
