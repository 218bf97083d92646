-- `Kind::try_from` meets its contract: no other number is a kind's. Assumes nothing.
use native.Mathlib.Omega.{arith}
use Rattle.kinds.proofs.Numbers.{no_other}
use Rattle.kinds.proofs.KindTryFromU8.try_from.Goals as goal

pub returns-in_default : goal.returns-in_default
returns-in_default c = no_other c.args.number (λ h low. omega (arith, c.in_default))
