-- The chain: slaves in buffer order, far slave first; a column, a whole row, and a run from power-on.
use Rattle.std.specs.Prelude.{Bool, false, List, [], ◌∷◌, map}
use Rattle.protocol.specs.Rest.{power_on}
use Rattle.protocol.specs.Memory.{Memory}
use Rattle.protocol.specs.Slave.{Slave, Step, slave, step, slave_of}

-- What a column makes of a chain: the slaves afterwards, and the bit that reaches the master.
pub record Passed : Type 0 where
  pub slaves : List Slave
  pub answer : Bool

-- A slave before those that come after it.
abbrev pub behind : Slave → Passed → Passed
behind s r = record { slaves = s ∷ r.slaves; answer = r.answer }

-- Chain: the bit "goes slave by slave to the master".
unfoldable pub pass : List Slave → (m b : Bool) → Passed
pass [] m b = record { slaves = []; answer = b }
pass (s ∷ ss) m b = let t : Step = step s m b in behind (slave_of t) (pass ss m t.says.sent)

-- Chain: "In every column the bit enters at the far end as 0".
abbrev pub column : List Slave → Bool → Passed
column ss m = pass ss m false

-- The answers to a master row, a bit a column.
unfoldable pub answers : List Slave → List Bool → List Bool
answers ss [] = []
answers ss (m ∷ ms) = (column ss m).answer ∷ answers (column ss m).slaves ms

-- The slaves after a master row.
unfoldable pub after : List Slave → List Bool → List Slave
after ss [] = ss
after ss (m ∷ ms) = after (column ss m).slaves ms

-- Rest: "At power-on nobody is at rest".
unfoldable pub switched_on : List Memory → List Slave
switched_on ks = map (λ k. slave k power_on) ks

-- The slaves' memories, in the chain's order.
abbrev pub memories : List Slave → List Memory
memories ss = map (λ s. s.memory) ss

-- A run from power-on: the answer row ..
unfoldable pub answers_from : List Memory → List Bool → List Bool
answers_from ks row = answers (switched_on ks) row

-- .. and the memories that it leaves.
unfoldable pub memories_after : List Memory → List Bool → List Memory
memories_after ks row = memories (after (switched_on ks) row)
