-- Slave IDs and channel places: reversing twice is the identity. Assumes nothing.
use mathlib.Core.Path.{◌≡◌}
use Prim.Native.Nat.{ℕ, ◌≤◌}
use native.Mathlib.Omega.{arith}
use Rattle.protocol.specs.Channels.{reversed}

pub reversed_twice : (n i : ℕ) → i ≤ n → reversed n (reversed n i) ≡ i
reversed_twice n i h = omega arith
