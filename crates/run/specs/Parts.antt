-- One slave over a whole row, and the slaves one after the other, as the code takes them: nothing here is needed to read what run
-- promises. That this is protocol's chain, which goes column by column, is proved (proofs/Turned).
use Rattle.std.specs.Prelude.{◌≡◌, Bool, List, [], ◌∷◌, map, ℕ, ◌*◌, length, get_or, Option as Maybe, Some, None}
use Rattle.std.proofs.Math.Option.{Option, none}
use Rattle.protocol.specs.Limits.{bank_size, command_count}
use Rattle.protocol.specs.Bits.{num, row_of}
use Rattle.protocol.specs.Rest.{power_on}
use Rattle.protocol.specs.Memory.{Memory, place_of, at, put_at, uncounted, one_more}
use Rattle.protocol.specs.Slave as protocol
use Rattle.protocol.specs.Chain.{answers_from, memories_after}
use Rattle.slave.specs.declared.Seen.{Seen}
use Rattle.run.specs.Run.{sizes, memories_of, registers_of, counts_of}

-- The bits that a slave sends, from the master's and its far neighbour's ..
unfoldable pub sent_by : protocol.Slave → (ms bs : List Bool) → List Bool
sent_by s [] bs = []
sent_by s (m ∷ ms) [] = []
sent_by s (m ∷ ms) (b ∷ bs) = let t : protocol.Step = protocol.step s m b in t.says.sent ∷ sent_by (protocol.slave_of t) ms bs

-- .. and what it is then.
unfoldable pub after_by : protocol.Slave → (ms bs : List Bool) → protocol.Slave
after_by s [] bs = s
after_by s (m ∷ ms) [] = s
after_by s (m ∷ ms) (b ∷ bs) = after_by (protocol.slave_of (protocol.step s m b)) ms bs

-- A slave's memory, of its number of banks, its registers, its rights, its waiting number and its counts ..
abbrev pub memory_by : (banks : ℕ) → (registers rights : List ℕ) → (wait : ℕ) → (counts : List ℕ) → Memory
memory_by banks registers rights wait counts =
    record { banks = banks; registers = registers; rights = rights; wait = wait; counts = counts }

-- .. and that slave at power-on, when nothing is counted.
abbrev pub new_by : (banks : ℕ) → (registers rights : List ℕ) → (wait : ℕ) → protocol.Slave
new_by banks registers rights wait = protocol.slave (memory_by banks registers rights wait uncounted) power_on

-- A slave's counts after a column: one more of the code that was executed in it, if one was.
abbrev pub counts_by : (ran : Maybe ℕ) → (counts : List ℕ) → List ℕ
counts_by None counts = counts
counts_by (Some code) counts = one_more counts code

-- Its registers after a column, in which a byte was stored at the place that it looks at, or none was.
abbrev pub kept : (registers : List ℕ) → (place : Option ℕ) → (stored : Maybe ℕ) → List ℕ
kept registers place None = registers
kept registers place (Some byte) = put_at registers place byte

-- The place of the register that is looked at, in the registers as they stand, if one is looked at and its address shows one.
abbrev pub shown_in : (banks : ℕ) → (registers : List ℕ) → (address : Maybe ℕ) → Option ℕ
shown_in banks registers None = none
shown_in banks registers (Some address) = place_of banks (get_or registers (bank_size * banks) 0) address

-- What a slave sees in a column, of the bits, its own bytes, the place that it looks at and its waiting number.
abbrev pub seen_by : (master far : Bool) → (rights registers : List ℕ) → (place : Option ℕ) → (wait : ℕ) → Seen
seen_by master far rights registers place wait =
    record { master = master; far = far; right = at rights place; byte = at registers place; wait = wait }

-- The lent registers, rights, waits and counts hold the slaves of a table.
pub record Holds (table registers rights waits counts : List ℕ) : Type 0 where
  pub all_registers : length registers ≡ sizes table
  pub all_rights : length rights ≡ sizes table
  pub all_waits : length waits ≡ length table
  pub all_counts : length counts ≡ command_count * length table

-- One slave over a row: in `cds` its far neighbour's bits, and its own afterwards; its counts are those of this row.
pub record Passed (banks : ℕ) (rights : List ℕ) (wait : ℕ) (registers cdm cds registers' counts' cds' : List ℕ) : Type 0 where
  pub sent : cds' ≡ map num (sent_by (new_by banks registers rights wait) (row_of cdm) (row_of cds))
  pub memory_after : memory_by banks registers' rights wait counts'
      ≡ (after_by (new_by banks registers rights wait) (row_of cdm) (row_of cds)).memory

-- A whole row from power-on.
pub record Rowed (table rights waits registers cdm registers' counts' cds' : List ℕ) : Type 0 where
  pub row : cds' ≡ map num (answers_from (memories_of table registers rights waits) (row_of cdm))
  pub registers_after : registers' ≡ registers_of (memories_after (memories_of table registers rights waits) (row_of cdm))
  pub counts_after : counts' ≡ counts_of (memories_after (memories_of table registers rights waits) (row_of cdm))
