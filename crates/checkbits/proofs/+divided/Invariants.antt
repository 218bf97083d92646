-- `checkbits::divided` ends: fewer bits are left each time.
use Rattle.checkbits.proofs.+divided.Given as goal

abbrev pub decreases-divided : goal.decreases-divided
decreases-divided l = l.left
