-- `job::are_bits` meets its contract: no byte is above 1. Assumes nothing.
use Rattle.job.specs.Bytes.{are_bits}
use Rattle.job.proofs.are_bits.Goals as goal

pub returns : goal.returns
unfolding are_bits
returns c = c.none_above.ensures
