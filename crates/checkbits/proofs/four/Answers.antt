-- `checkbits::four` meets its contract: what remains stands in the table at both together. Assumes nothing.
use Rattle.checkbits.proofs.Fours.{four_at, entry_low}
use Rattle.checkbits.proofs.four.Goals as goal

pub returns : goal.returns
returns c = (four_at _ _ c.requires, entry_low _)
