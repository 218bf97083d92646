-- One slave as its own machine: it sees the master's bit m and its far neighbour's bit b, and nothing else.
use Rattle.std.specs.Prelude.{Bool, true, false, cond, not, ◌&&◌, ℕ, zero, suc, ◌+◌, ◌-◌, ltb, eqb}
use Rattle.std.specs.Bool.{beq}
use Rattle.std.proofs.Math.Option.{Option, none, some}
use Rattle.protocol.specs.Limits.{header_columns, lock_first, lock_last, address_count, byte_limit, acknowledge_first}
use Rattle.protocol.specs.Bits.{bit, push}
use Rattle.protocol.specs.Rest.{Timed, Judged, judge}
use Rattle.protocol.specs.Machine as machine
use Rattle.protocol.specs.Division.{data_bits, top_bit, word, fits, byte_of}
use Rattle.protocol.specs.Header.{Header, wrong, access, command, header}
use Rattle.protocol.specs.Commands.{selects, concerns, execute_column}
use Rattle.protocol.specs.Memory.{Memory, allows, holds, stored, delay, counted}

-- Where a slave is in a frame. `column` counts from 1 after S, and behind a command's header from 0 at its S; `so_far` and `what` are the bits
-- taken, and those to send, as a number; `nth` is the byte's place in the access, from 1; `unconfirmed` is how often its S came and was not
-- confirmed; `left` counts a byte's bits down.
pub data Phase : Type 0 where
  deaf : Phase
  locks : (column so_far : ℕ) → (number : Option ℕ) → Phase
  head : (column so_far : ℕ) → (number : Option ℕ) → Phase
  ask_r : (address : ℕ) → Phase
  ask_w : (address : ℕ) → (r : Bool) → Phase
  byte_s : (write : Bool) → (address nth unconfirmed : ℕ) → Phase
  sends : (address nth left what : ℕ) → Phase
  takes : (address nth left so_far : ℕ) → Phase
  ask_p : (write good : Bool) → (address nth : ℕ) → Phase
  acknowledge : (column ids cmd : ℕ) → (number : Option ℕ) → Phase
  ask_ex : (cmd : ℕ) → (concerned : Bool) → Phase

-- What a slave says in a column: the bit it sends, and its memory afterwards.
pub record Reply : Type 0 where
  pub sent : Bool
  pub memory : Memory

-- A reply by its two parts.
abbrev pub reply : Bool → Memory → Reply
reply b k = record { sent = b; memory = k }

-- What a column makes of a slave in a frame ..
abbrev pub Turn : Type 0
Turn = machine.Turn Phase Reply

-- .. by its three parts ..
abbrev pub turn : Phase → Bool → Memory → Turn
turn p b k = record { next = p; says = reply b k }

-- .. and behind the timer.
abbrev pub Step : Type 0
Step = machine.Step Phase Reply

-- What a lock column makes of a slave: the number it holds then, and the bit it sends.
pub record Lock : Type 0 where
  pub number : Option ℕ
  pub sent : Bool

-- Locks: "At IDL0 to IDL7 a slave that holds no number yet and sees 0 takes this number and sends 1; all others pass on what they
-- see. At IDL8 a slave without a number sends 1 (001)."
unfoldable pub lock : (column : ℕ) → Option ℕ → Bool → Lock
lock column (some i) b = record { number = some i; sent = b }
lock column none true = record { number = none; sent = true }
lock column none false =
    cond (ltb column lock_first) (record { number = none; sent = false })
    (cond (ltb column lock_last) (record { number = some (column - lock_first); sent = true })
    (record { number = none; sent = true }))

-- Locks: after IDL8's column the rest of the header.
abbrev pub lock_next : (column so_far : ℕ) → Option ℕ → Phase
lock_next column so_far number =
    cond (ltb column lock_last) (locks (column + 1) so_far number) (head (column + 1) so_far number)

-- "Wrong header check ..: all slaves go deaf until rest." 000: after a command's header "another start bit (S)" to all of them, since each
-- "need[s] to process the upcoming BiSS Command frame". R and W: "All other slaves are deaf from R on."
unfoldable pub called : Header → Option ℕ → Phase
called wrong number = deaf
called (command ids cmd) number = acknowledge 0 ids cmd number
called (access id address) none = deaf
called (access id address) (some i) = cond (eqb i id) (ask_r address) deaf

-- P: "if the next address exists, allows the access, and fewer than 64 bytes have passed".
unfoldable pub more : Memory → (write : Bool) → (address nth : ℕ) → Bool
more k write address nth = ltb (address + 1) address_count && allows k write (address + 1) && ltb nth byte_limit

-- Byte: where a confirmed S leads. "Reading: the slave sends data and check"; "Writing: the slave echoes all twelve bits".
abbrev pub confirmed : Memory → (write : Bool) → (address nth : ℕ) → Phase
confirmed k false address nth = sends address nth top_bit (word data_bits (holds k address))
confirmed k true address nth = takes address nth top_bit 0

-- Byte, writing: "at the last check bit stores the byte if the check is right".
abbrev pub took : Memory → (address word : ℕ) → Memory
took k address word = cond (fits data_bits word) (stored k address (byte_of word)) k

-- 000: "all BiSS Slaves addressed by IDS acknowledge .. with an ID acknowledge bit (IDA)", each in its own column; all else passes on. The
-- ID that is held and not addressed "send[s] IDA = 0", which is what it sees there.
abbrev pub acknowledged : (column ids : ℕ) → (number : Option ℕ) → Bool → Bool
acknowledged column ids none b = b
acknowledged column ids (some id) b = cond (eqb column (acknowledge_first + id) && selects ids id) true b

-- 000: "7 Cycles" of acknowledgement, in a broadcast none, and then EX.
abbrev pub acknowledge_next : (column ids cmd : ℕ) → (number : Option ℕ) → Phase
acknowledge_next column ids cmd number =
    cond (ltb (column + 1) (execute_column ids)) (acknowledge (column + 1) ids cmd number) (ask_ex cmd (concerns ids number))

-- What a slave in a frame does in one column, in the paper's order.
unfoldable pub speak : Memory → Phase → (m b : Bool) → Turn
-- Chain: "A deaf slave passes bits on and stores nothing until rest."
speak k deaf m b = turn deaf b k
-- Header and Locks: the header's columns, counted from 1; "Columns 10 to 15 after S answer 0."
speak k (locks column so_far number) m b =
    let l : Lock = lock column number b in turn (lock_next column (push so_far m) l.number) l.sent k
speak k (head column so_far number) m b =
    turn
    (cond (ltb column header_columns) (head (column + 1) (push so_far m) number) (called (header (push so_far m)) number))
    b
    k
-- R and W: "The addressed slave repeats R. It repeats W if R and W differ and its right allows the access at that address;
-- otherwise it inverts W and goes deaf." R = 0, W = 1 writes.
speak k (ask_r address) m b = turn (ask_w address m) m k
speak k (ask_w address r) m b =
    cond (not (beq r m) && allows k m address) (turn (byte_s m address 1 0) m k) (turn deaf (not m) k)
-- Byte: "A 0 at S is answered 0 and ends the access; the slave goes deaf." Request 03: "with S = 1 it answers 0 that many times and then
-- 1, while the master repeats S; a 0 from the master ends the access."
speak k (byte_s write address nth unconfirmed) false b = turn deaf false k
speak k (byte_s write address nth unconfirmed) true b =
    cond (ltb unconfirmed (delay k write nth)) (turn (byte_s write address nth (unconfirmed + 1)) false k)
    (turn (confirmed k write address nth) true k)
-- Byte: "Reading: the slave sends data and check; the master's twelve bits are not judged".
speak k (sends address nth (suc left) what) m b = turn (sends address nth left what) (bit (suc left) what) k
speak k (sends address nth zero what) m b = turn (ask_p false true address nth) (bit zero what) k
-- Byte: "Writing: the slave echoes all twelve bits".
speak k (takes address nth (suc left) so_far) m b = turn (takes address nth left (push so_far m)) m k
speak k (takes address nth zero so_far) m b =
    turn (ask_p true (fits data_bits (push so_far m)) address nth) m (took k address (push so_far m))
-- P: "The master's bit is not judged." The slave answers 0 and goes on at address + 1, "otherwise 1, and it goes deaf. House rule:
-- after a written byte with a wrong check it also answers 1."
speak k (ask_p write good address nth) m b =
    cond (good && more k write address nth) (turn (byte_s write (address + 1) (nth + 1) 0) false k) (turn deaf true k)
-- Request 07, a command's S: a 0 ends the frame for it. The master's bits between S and EX are not judged.
speak k (acknowledge zero ids cmd number) false b = turn deaf b k
speak k (acknowledge zero ids cmd number) true b = turn (acknowledge_next zero ids cmd number) (acknowledged zero ids number b) k
speak k (acknowledge (suc column) ids cmd number) m b =
    turn (acknowledge_next (suc column) ids cmd number) (acknowledged (suc column) ids number b) k
-- 000: "triggering the actual execution with the execute bit (EX)". "A command whose execution was not sent changes no count."
speak k (ask_ex cmd concerned) m b = turn deaf b (cond (m && concerned) (counted k cmd) k)

-- A slave: its memory, and where it is.
pub record Slave : Type 0 where
  pub memory : Memory
  pub state : Timed Phase

-- A slave by its two parts.
abbrev pub slave : Memory → Timed Phase → Slave
slave k s = record { memory = k; state = s }

-- Chain: "A slave with nothing to say passes on the bit it sees".
abbrev pub stepped : Memory → Judged Phase → (m b : Bool) → Step
stepped k j m b = machine.stepped (reply b k) (reply b k) (λ p. speak k p m b) j

-- Start: "All numbers are dropped there and given out afresh in each frame."
abbrev pub begun : Phase
begun = locks 1 0 none

-- Chain: one column of one slave; the fourteenth zero is judged first.
unfoldable pub step : Slave → (m b : Bool) → Step
step s m b = stepped s.memory (judge begun s.state m) m b

-- The slave that a step leaves.
abbrev pub slave_of : Step → Slave
slave_of t = slave t.says.memory t.state
