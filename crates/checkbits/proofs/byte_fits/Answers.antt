-- `checkbits::byte_fits` meets its contract: the check of eight bits looks at eight bits alone. Assumes nothing.
use Rattle.protocol.proofs.Division.{check_low}
use Rattle.protocol.specs.Division.{data_bits, fits}
use Rattle.checkbits.proofs.byte_fits.Goals as goal

pub returns : goal.returns
unfolding fits
returns c = rw (c.byte_check.ensures, check_low data_bits)
