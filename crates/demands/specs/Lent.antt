-- What the demands say of lent buffers: that they hold bytes, a list in one and its entries, the kinds that no chain makes, and those that
-- no chain makes that does not wait; and registers that differ only where nothing may be read, with the same numbers in the bank registers.
use Rattle.std.specs.Prelude.{◌≡◌, Bool, true, false, ◌||◌, List, [], ◌∷◌, ℕ, ◌-◌, ◌*◌, ◌≤◌, eqb, length, take, drop, get_or, Result, Ok}
use Rattle.std.proofs.Math.Option.{Option}
use Rattle.std.proofs.Math.ListN.{get_elem?}
use Rattle.protocol.specs.Limits.{bank_size}
use Rattle.protocol.specs.Bits.{num, bit}
use Rattle.protocol.specs.Entries.{Place, Entry}
use Rattle.protocol.specs.Banks.{bare}
use Rattle.protocol.specs.Pieces.{joined}
use Rattle.protocol.specs.Replay.{executions}
use Rattle.protocol.specs.Layout.{Field, current, entry_bytes, field_at, entries_in}
use Rattle.protocol.specs.Late.{Agrees}
use Rattle.job.specs.Bytes.{none_above}
use Rattle.job.specs.declared.Refusal.{Refusal}
use Rattle.run.specs.Run.{size_of}

-- A lent buffer holds bytes, as every slice of `u8` does.
unfoldable pub are_bytes : List ℕ → Bool
are_bytes buffer = none_above 255 buffer

-- The list of n entries that stands at the start of a buffer.
unfoldable pub list_in : (n : ℕ) → (buffer : List ℕ) → List ℕ
list_in n buffer = take (entry_bytes current * n) buffer

-- The kind's number of the entry at a place of a list.
unfoldable pub kind_at : (list : List ℕ) → (place : ℕ) → ℕ
kind_at list place = field_at current list (entry_bytes current * place) Field.kind

-- Where in the row the entry at a place of a list stands, and where its frame's S ..
unfoldable pub place_at : (list : List ℕ) → (place : ℕ) → Place
place_at list place =
    record {
      column = field_at current list (entry_bytes current * place) Field.column;
      start = field_at current list (entry_bytes current * place) Field.start;
    }

-- .. and what it is, but for its bank.
unfoldable pub bare_at : (list : List ℕ) → (place : ℕ) → Option Entry
bare_at list place = get_elem? (bare (entries_in current list)) place

-- Request 07: "the listed executions, counted": four counts a slave, far slave first, as run's table has them.
unfoldable pub executions_in : (slaves : ℕ) → (list : List ℕ) → List ℕ
executions_in slaves list = joined (executions slaves 0 (bare (entries_in current list)))

-- Request 02, "Open at the frame", of a list of n entries and one opened at the frame of its entry i: it was made, it agrees from some entry
-- on, and entry i is in it, but for the bank.
pub record Reopened (n i : ℕ) (list : List ℕ) (outcome : Result ℕ Refusal) (after : List ℕ) : Type 0 where
  pub skipped : ℕ
  pub not_it : skipped ≤ i
  pub made : outcome ≡ Ok (n - skipped)
  pub the_same : Agrees (entries_in current (list_in (n - skipped) after)) (drop skipped (entries_in current list))
  pub in_it : bare_at (list_in (n - skipped) after) (i - skipped) ≡ bare_at list i

-- A number is one of some.
abbrev pub is_one_of : List ℕ → ℕ → Bool
is_one_of [] n = false
is_one_of (x ∷ xs) n = eqb n x || is_one_of xs n

-- Entries, of the chain's account: "2, 8, 9, 12 and 14 never occur in it". Request 03: "`mute` may now stand in the chain's account."
-- Request 07: honest chains make no acknowledgement fault.
unfoldable pub is_breach : (kind : ℕ) → Bool
is_breach kind = is_one_of (2 ∷ 8 ∷ 12 ∷ 14 ∷ 19 ∷ 20 ∷ []) kind

-- Request 03, of a lent table of waits: no slave waits.
unfoldable pub none_waits : (waits : List ℕ) → Bool
none_waits waits = none_above 0 waits

-- "0 none, 1 read, 2 write, 3 both": the right at a place of the lent rights allows a read.
unfoldable pub may_read : (rights : List ℕ) → (place : ℕ) → Bool
may_read rights place = bit (num false) (get_or rights place 0)

-- "differ only in registers without the read right": as many, and wherever a read is allowed the same byte.
pub record DifferUnread (rights registers registers' : List ℕ) : Type 0 where
  pub as_many : length registers ≡ length registers'
  pub readable : (place : ℕ) → may_read rights place ≡ true → get_or registers place 0 ≡ get_or registers' place 0

-- The numbers in the bank registers of a table's slaves, each behind its slave's banks. Request 05: "In 01's two runs the bank registers are
-- equal".
unfoldable pub bank_registers : (table registers : List ℕ) → List ℕ
bank_registers [] registers = []
bank_registers (b ∷ table) registers = get_or registers (bank_size * b) 0 ∷ bank_registers table (drop (size_of b) registers)
