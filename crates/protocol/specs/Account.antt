-- The chain's own account: the same kinds, worked out from the master row and the slaves' memories, far slave first. It sees no
-- answer and no bit that a slave sends.
use Rattle.std.specs.Prelude.{Bool, true, false, cond, ◌&&◌, List, [], ◌∷◌, ℕ, zero, suc, ◌+◌, min, ltb, length}
use Rattle.std.specs.Bool.{beq}
use Rattle.std.proofs.Math.Option.{Option, none, some}
use Rattle.std.proofs.Math.ListN.{get_elem?}
use Rattle.protocol.specs.Limits.{header_columns, lock_last, id_count}
use Rattle.protocol.specs.Bits.{num, push}
use Rattle.protocol.specs.Rest.{Timed, power_on, judge}
use Rattle.protocol.specs.Machine as machine
use Rattle.protocol.specs.Machine.{go, gives, listing}
use Rattle.protocol.specs.Division.{data_bits, top_bit, fits, byte_of}
use Rattle.protocol.specs.Header.{Header, wrong, access, command, header}
use Rattle.protocol.specs.Commands.{execute_column}
use Rattle.protocol.specs.Memory.{Memory, allows, holds, delay}
use Rattle.protocol.specs.Slave.{Slave, more}
use Rattle.protocol.specs.Chain.{column, memories, switched_on}
use Rattle.protocol.specs.Entries.{Kind, Event, event, Place, opened, onward, Entry, note}
use Rattle.protocol.specs.Banks.{Banked, unknown, banked}

-- Where the frame is, for the chain as a whole; the fields are those of Slave and Reader.
pub data Phase : Type 0 where
  deaf : Phase
  locks : (column so_far : ℕ) → Phase
  head : (column so_far : ℕ) → Phase
  ask_r : (id address : ℕ) → Phase
  ask_w : (id address : ℕ) → (r : Bool) → Phase
  byte_s : (write : Bool) → (id address nth unconfirmed : ℕ) → Phase
  carries : (write : Bool) → (id address nth left so_far : ℕ) → Phase
  ask_p : (write good : Bool) → (id address nth : ℕ) → Phase
  acknowledge : (column ids cmd : ℕ) → Phase
  ask_ex : (ids cmd : ℕ) → Phase

-- What a column makes of the account in a frame: its next phase, and perhaps an event ..
abbrev pub Told : Type 0
Told = machine.Turn Phase (Option Event)

-- .. and behind the timer.
abbrev pub Step : Type 0
Step = machine.Step Phase (Option Event)

-- Locks: "the far slave is ID 0, and slaves past the eighth have none": the ID's slave is the one at that place of the chain.
abbrev pub slave_at : List Memory → ℕ → Option Memory
slave_at ks id = get_elem? ks id

-- badhead and command, at the header's last column, as in Reader.
unfoldable pub headed : Header → Told
headed wrong = gives (event Kind.badhead 0 0 0) deaf
headed (command ids cmd) = gives (event Kind.command cmd 0 ids) (acknowledge 0 ids cmd)
headed (access id address) = go (ask_r id address)

-- absent: nobody holds the ID. refused: its right does not allow the access.
unfoldable pub asked : Option Memory → (id address : ℕ) → (w : Bool) → Told
asked none id address w = gives (event Kind.absent id address 0) deaf
asked (some k) id address w =
    cond (allows k w address) (go (byte_s w id address 1 0)) (gives (event Kind.refused id address (num w)) deaf)

-- What stands at a register of a slave that may be there.
abbrev pub held_at : Option Memory → ℕ → ℕ
held_at none address = 0
held_at (some k) address = holds k address

-- How long the S of a byte is not confirmed by a slave that may be there.
abbrev pub delay_at : Option Memory → (write : Bool) → (nth : ℕ) → ℕ
delay_at none write nth = 0
delay_at (some k) write nth = delay k write nth

-- P of a slave that may be there.
abbrev pub more_at : Option Memory → (write : Bool) → (address nth : ℕ) → Bool
more_at none write address nth = false
more_at (some k) write address nth = more k write address nth

-- 000: "7 Cycles" of acknowledgement, in a broadcast none, and then EX.
abbrev pub acknowledge_next : (column ids cmd : ℕ) → Phase
acknowledge_next column ids cmd = cond (ltb (column + 1) (execute_column ids)) (acknowledge (column + 1) ids cmd) (ask_ex ids cmd)

-- One column of a frame, from the master's bit and the memories.
unfoldable pub tell : List Memory → Phase → (m : Bool) → Told
tell ks deaf m = go deaf
tell ks (locks column so_far) m =
    cond (ltb column lock_last) (go (locks (column + 1) (push so_far m)))
    (gives (event Kind.lock 0 0 (min (id_count + 1) (length ks))) (head (column + 1) (push so_far m)))
tell ks (head column so_far) m =
    cond (ltb column header_columns) (go (head (column + 1) (push so_far m))) (headed (header (push so_far m)))
tell ks (ask_r id address) m = go (ask_w id address m)
tell ks (ask_w id address r) m =
    cond (beq r m) (gives (event Kind.pair id address 0) deaf) (asked (slave_at ks id) id address m)
tell ks (byte_s write id address nth unconfirmed) false = cond (ltb 0 unconfirmed) (gives (event Kind.mute id address 0) deaf) (go deaf)
tell ks (byte_s write id address nth unconfirmed) true =
    cond (ltb unconfirmed (delay_at (slave_at ks id) write nth)) (go (byte_s write id address nth (unconfirmed + 1)))
    (go (carries write id address nth top_bit 0))
tell ks (carries write id address nth (suc left) so_far) m = go (carries write id address nth left (push so_far m))
tell ks (carries false id address nth zero so_far) m =
    gives (event Kind.read id address (held_at (slave_at ks id) address)) (ask_p false true id address nth)
tell ks (carries true id address nth zero so_far) m =
    gives (event (cond (fits data_bits (push so_far m)) Kind.written Kind.writebad) id address (byte_of (push so_far m)))
    (ask_p true (fits data_bits (push so_far m)) id address nth)
tell ks (ask_p write good id address nth) m =
    cond (good && more_at (slave_at ks id) write address nth) (go (byte_s write id (address + 1) (nth + 1) 0))
    (gives (event Kind.closed id address 0) deaf)
tell ks (acknowledge zero ids cmd) false = go deaf
tell ks (acknowledge zero ids cmd) true = go (acknowledge_next zero ids cmd)
tell ks (acknowledge (suc column) ids cmd) m = go (acknowledge_next (suc column) ids cmd)
tell ks (ask_ex ids cmd) m = gives (event (cond m Kind.executed Kind.withheld) cmd 0 ids) deaf

-- The phase after S.
abbrev pub begun : Phase
begun = locks 1 0

-- One column of the account: the fourteenth zero is judged first.
unfoldable pub step : List Memory → Timed Phase → (m : Bool) → Step
step ks s m = listing (λ p. tell ks p m) (judge begun s m)

-- The account along a chain, the first column at place p: before each column it sees the memories as they stand.
unfoldable pub along : List Slave → Timed Phase → Place → List Bool → List Entry
along ss s p [] = []
along ss s p (m ∷ ms) =
    note p (step (memories ss) s m).says
    (along (column ss m).slaves (step (memories ss) s m).state (onward (step (memories ss) s m).state p) ms)

-- Entries: "The chain's account", of a master row from power-on ..
unfoldable pub entries_along : List Memory → List Bool → List Entry
entries_along ks row = along (switched_on ks) power_on (opened 0) row

-- .. and Request 05: "The chain's account follows the same rule" for the bank.
unfoldable pub account : List Memory → List Bool → List Banked
account ks row = banked unknown (entries_along ks row)
