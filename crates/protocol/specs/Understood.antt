-- A built row understood: what the reader's list shows of it, where the chain holds the ID and allows the access at every address asked
-- for, and the row was built with that slave's waiting number. S stands in column 14 (Building's picture): IDL8 answers in column 23, the
-- header ends in column 29, W stands in column 31.
use Rattle.std.specs.Prelude.{◌≡◌, Bool, true, false, cond, List, [], ◌∷◌, ℕ, zero, suc, ◌+◌, ◌*◌, ◌≤◌, ◌<◌, min, length}
use Rattle.std.proofs.Math.Option.{some}
use Rattle.std.proofs.Math.ListN.{get_elem?}
use Rattle.protocol.specs.Limits.{rest_zeros, header_columns, id_count, lock_last, address_count, byte_limit}
use Rattle.protocol.specs.Division.{top_bit}
use Rattle.protocol.specs.Commands.{execute_column}
use Rattle.protocol.specs.Memory.{Memory, allows, holds}
use Rattle.protocol.specs.Slave.{more}
use Rattle.protocol.specs.Chain.{answers_from}
use Rattle.protocol.specs.Entries.{Kind, Event, event, Place, Entry}
use Rattle.protocol.specs.Banks.{Banked}
use Rattle.protocol.specs.Reader.{columns, list_from}

-- The list that a reader makes of a master row and a chain's answers to it.
abbrev pub listed : List Memory → List Bool → List Banked
listed ks row = list_from 0 (columns row (answers_from ks row))

-- A place in the row's frame ..
abbrev pub frame_at : (column : ℕ) → Place
frame_at column = record { column = column; start = rest_zeros }

-- .. and an entry there.
abbrev pub in_frame : (column : ℕ) → Event → Entry
in_frame column e = record { place = frame_at column; event = e }

-- R and W: "its right allows the access at that address", for so many addresses of the slave that holds the ID; numbers as in refusal 10.
pub record Allowed (ks : List Memory) (k : Memory) (write : Bool) (id address count : ℕ) : Type 0 where
  pub numbered : id < id_count
  pub held : get_elem? ks id ≡ some k
  pub there : address + count ≤ address_count
  pub few : count ≤ byte_limit
  pub allowed : (i : ℕ) → i < count → allows k write (address + i) ≡ true

-- lock: "IDL8's column .. value = how many of IDL0..7 are 1, or 9 if IDL8 is 1 after eight".
abbrev pub lock_shown : List Memory → Entry
lock_shown ks = in_frame (rest_zeros + lock_last) (event Kind.lock 0 0 (min (id_count + 1) (length ks)))

-- command: "last header column .. id = CMD, value = IDS".
abbrev pub command_shown : (ids cmd : ℕ) → Entry
command_shown ids cmd = in_frame (rest_zeros + header_columns) (event Kind.command cmd 0 ids)

-- executed, withheld: in EX's column, behind the command's S in column 30.
abbrev pub execution_shown : (ids cmd : ℕ) → (execute : Bool) → Entry
execution_shown ids cmd execute =
    in_frame (rest_zeros + header_columns + 1 + execute_column ids) (event (cond execute Kind.executed Kind.withheld) cmd 0 ids)

-- Request 03: "Every byte of a read waits; in a write the first byte does not, later ones do": how many of the first n wait.
abbrev pub delayed : (write : Bool) → ℕ → ℕ
delayed false n = n
delayed true zero = 0
delayed true (suc n) = n

-- The column in which S of byte i is confirmed: 32 for byte 0, fourteen more for each byte before it, and those in which a byte waited.
abbrev pub byte_column : (wait : ℕ) → (write : Bool) → ℕ → ℕ
byte_column wait write i = rest_zeros + 1 + header_columns + 2 + (top_bit + 3) * i + wait * delayed write (suc i)

-- read, written: "last check column"; the address is "that of the byte".
abbrev pub byte_shown : (wait : ℕ) → (write : Bool) → (id address i value : ℕ) → Entry
byte_shown wait write id address i value =
    in_frame (byte_column wait write i + (top_bit + 1)) (event (cond write Kind.written Kind.read) id (address + i) value)

-- Byte i and those after it, an entry each.
unfoldable pub bytes_shown : (wait : ℕ) → (write : Bool) → (id address i : ℕ) → List ℕ → List Entry
bytes_shown wait write id address i [] = []
bytes_shown wait write id address i (v ∷ vs) = byte_shown wait write id address i v ∷ bytes_shown wait write id address (i + 1) vs

-- The bytes that stand at so many addresses.
unfoldable pub standing : Memory → (address count : ℕ) → List ℕ
standing k address zero = []
standing k address (suc count) = holds k address ∷ standing k (address + 1) count

-- closed: "P answered 1", of the last byte, byte i: exactly if the slave would not go on there.
abbrev pub closing : Memory → (write : Bool) → (id address i : ℕ) → List Entry
closing k write id address i =
    cond (more k write (address + i) (i + 1)) []
    (in_frame (byte_column k.wait write i + (top_bit + 2)) (event Kind.closed id (address + i) 0) ∷ [])
