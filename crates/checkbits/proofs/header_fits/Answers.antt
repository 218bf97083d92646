-- `checkbits::header_fits` meets its contract: a header's eleven bits are three, four and four. Assumes nothing.
use mathlib.Core.Path.{ap}
use Prim.Native.Nat.{ℕ, ◌-◌, ◌/◌, ◌%◌}
use lib.Dec.{eqb}
use Rattle.protocol.specs.Division.{check, remainder, fits}
use Rattle.checkbits.proofs.Fours.{three_fours}
use Rattle.checkbits.proofs.header_fits.Goals as goal

pub returns : goal.returns
unfolding fits check remainder
returns c =
    let word = c.args.word in
    rw (c.four.ensures.0, c.four-middle.ensures.0, c.four-high.ensures.0)
    (ap (λ (r : ℕ). eqb (word % 16) (15 - r)) (three_fours (word / 16)))
