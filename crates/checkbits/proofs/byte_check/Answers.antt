-- `checkbits::byte_check` meets its contract: it inverts what remains of eight bits. Assumes nothing.
use mathlib.Core.Path.{ap}
use Prim.Native.Nat.{ℕ, ◌-◌}
use Rattle.protocol.specs.Division.{check, remainder}
use Rattle.checkbits.proofs.byte_check.Goals as goal

pub returns : goal.returns
unfolding check remainder
returns c = ap (λ (r : ℕ). 15 - r) c.divided.ensures.0
