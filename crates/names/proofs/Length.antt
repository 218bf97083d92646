-- How long a kind's name can be. Assumes nothing.
use Prim.Native.Nat.{◌≤◌}
use native.Mathlib.Omega.{arith}
use lib.ListN.{length}
use Rattle.protocol.specs.Entries.{Kind, table}

pub kind_short : (k : Kind) → length (table k).name ≤ 8
kind_short k = grind arith
