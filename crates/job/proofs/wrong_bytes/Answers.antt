-- `job::wrong_bytes` meets its contract. Assumes nothing.
use Rattle.job.specs.Refusals.{first}
use Rattle.job.proofs.wrong_bytes.Goals as goal

pub returns-then-are_bits : goal.returns-then-are_bits
unfolding first
returns-then-are_bits c = rw (← c.are_bits.ensures, c.if-are_bits.true)

pub returns-else-are_bits : goal.returns-else-are_bits
unfolding first
returns-else-are_bits c = rw (← c.are_bits.ensures, c.if-are_bits.false)
