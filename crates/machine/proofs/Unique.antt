-- The promises of this crate have one result each: of a bound beside an equation nothing is asked. Assumes nothing.
use mathlib.Core.Path.{◌≡◌}
use mathlib.Core.Bool.{Bool, ◌&&◌}
use Prim.Native.Nat.{ℕ}
use lib.Dec.{ltb}
use Rattle.protocol.specs.Limits.{id_count}
use Rattle.protocol.specs.Commands.{selects, execute_column}
use Rattle.laws.proofs.Unique.{one_result}
use Rattle.machine.specs.Zeros.{zeros_after}
use Rattle.machine.specs.Commands.{stops_at}

counted_unique : (count : ℕ) (master : Bool) (a b : ℕ) → a ≡ zeros_after count master → b ≡ zeros_after count master → a ≡ b
counted_unique count master a b p q = one_result p q

selected_unique : (ids id : ℕ) (a b : Bool) → a ≡ (ltb id id_count && selects ids id) → b ≡ (ltb id id_count && selects ids id) → a ≡ b
selected_unique ids id a b p q = one_result p q

execute_column_unique : (ids a b : ℕ) → a ≡ execute_column ids → b ≡ execute_column ids → a ≡ b
execute_column_unique ids a b p q = one_result p q

stops_unique : (column : ℕ) (master a b : Bool) → a ≡ stops_at column master → b ≡ stops_at column master → a ≡ b
stops_unique column master a b p q = one_result p q
