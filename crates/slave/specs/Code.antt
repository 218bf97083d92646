-- What the code's slave stands for in protocol's definitions, for the contracts: nothing here is needed to read what run promises.
-- Every value of the types stands for something, so that no contract asks for a good state.
use Rattle.std.specs.Prelude.{◌≡◌, Bool, true, false, ◌&&◌, ℕ, ◌+◌, ◌-◌, ◌%◌, min, ltb, Option as Maybe, Some, None}
use Rattle.std.proofs.Math.Option.{Option, none, some}
use Rattle.protocol.specs.Limits.{header_columns, address_count, byte_limit}
use Rattle.protocol.specs.Bits.{num, bit}
use Rattle.protocol.specs.Rest.{Timed, power, rest, frame, Judged, still, ends, meant, judge}
use Rattle.protocol.specs.Division.{top_bit}
use Rattle.protocol.specs.Memory.{Memory, allows, holds, stored, counted}
use Rattle.protocol.specs.Slave as protocol
use Rattle.protocol.specs.Slave.{deaf, locks, head, ask_r, ask_w, byte_s, sends, takes, ask_p, acknowledge, ask_ex}
use Rattle.slave.specs.declared.number.Number.{Number}
use Rattle.slave.specs.declared.phase.Phase.{Phase}
use Rattle.slave.specs.declared.phase.Phase.TheVariants.{Deaf, Locks, Head, AskR, AskW, ByteS, Sends, Takes, AskP, Acknowledge, AskEX}
use Rattle.slave.specs.declared.phase.Asked.{Asked}
use Rattle.slave.specs.declared.phase.Byte.{Byte}
use Rattle.slave.specs.declared.phase.Passed.{Passed}
use Rattle.slave.specs.declared.Slave.{Slave}
use Rattle.slave.specs.declared.Form.{Form}
use Rattle.slave.specs.declared.Form.TheVariants.{Power, Rest, Frame}
use Rattle.slave.specs.declared.Seen.{Seen}
use Rattle.slave.specs.declared.Reply.{Reply}
use Rattle.slave.specs.declared.header.Lock.{Lock}

-- What the code holds or does not hold, as protocol's definitions have it.
abbrev pub option_of : {A : Type 0} → Maybe A → Option A
option_of None = none
option_of (Some x) = some x

-- The ID that a slave holds.
abbrev pub number_of : Maybe Number → Option ℕ
number_of None = none
number_of (Some own) = some own.value

-- The address before an address, round the end: in AskP the phase has the next one.
abbrev pub before : ℕ → ℕ
before address = (address + (address_count - 1)) % address_count

-- The address behind an address, round the end.
abbrev pub next_address : ℕ → ℕ
next_address address = (address % address_count + 1) % address_count

-- A byte's bits are counted down from top_bit; a count is read below the next power of two.
abbrev pub counts : ℕ
counts = 16

-- What a phase is with its numbers: a header's columns end at header_columns, and the locks' count leads at most one further.
abbrev pub phase_of : Phase → protocol.Phase
phase_of Deaf = protocol.deaf
phase_of (Locks h) = protocol.locks (min h.column header_columns) h.word (number_of h.number)
phase_of (Head h) = protocol.head (min h.column (header_columns + 1)) h.word (number_of h.number)
phase_of (AskR address) = protocol.ask_r (address % address_count)
phase_of (AskW r address) = protocol.ask_w (address % address_count) r
phase_of (ByteS write s) = protocol.byte_s write (s.address % address_count) s.nth s.unconfirmed
phase_of (Sends b) = protocol.sends (b.address % address_count) b.nth (b.left % counts) b.word
phase_of (Takes b) = protocol.takes (b.address % address_count) b.nth (b.left % counts) b.word
phase_of (AskP write good p) = protocol.ask_p write good (before (p.next % address_count)) p.nth
phase_of (Acknowledge c) = protocol.acknowledge c.column c.ids c.cmd (number_of c.number)
phase_of (AskEX concerned cmd) = protocol.ask_ex cmd concerned

-- The address of the register that a phase looks at, if it looks at one ..
abbrev pub address_by : Phase → Maybe ℕ
address_by Deaf = None
address_by (Locks h) = None
address_by (Head h) = None
address_by (AskR address) = None
address_by (AskW r address) = Some (address % address_count)
address_by (ByteS write s) = Some (s.address % address_count)
address_by (Sends b) = None
address_by (Takes b) = Some (b.address % address_count)
address_by (AskP write good p) = Some (p.next % address_count)
address_by (Acknowledge c) = None
address_by (AskEX concerned cmd) = None

-- .. and that a slave looks at.
abbrev pub address_in : Form → Phase → Maybe ℕ
address_in Power p = None
address_in Rest p = None
address_in Frame p = address_by p

abbrev pub address_of : Slave → Maybe ℕ
address_of s = address_in s.form s.phase

-- What a slave of the code stands for: of its parts ..
abbrev pub state_by : Form → (zeros : ℕ) → Phase → Timed protocol.Phase
state_by Power z p = power z
state_by Rest z p = rest
state_by Frame z p = frame z (phase_of p)

-- .. and of itself.
abbrev pub state_of : Slave → Timed protocol.Phase
state_of s = state_by s.form s.zeros s.phase

-- What a column makes of a slave with nothing to say, once it is judged ..
abbrev pub unsaid : Judged protocol.Phase → Timed protocol.Phase
unsaid (still s) = s
unsaid ends = rest
unsaid (meant z p) = frame z p

-- .. from the column.
unfoldable pub heard_by : Timed protocol.Phase → (m : Bool) → Timed protocol.Phase
heard_by s m = unsaid (judge protocol.begun s m)

-- A phase in which a slave does not speak.
abbrev pub is_deaf : protocol.Phase → Bool
is_deaf deaf = true
is_deaf (locks column so_far number) = false
is_deaf (head column so_far number) = false
is_deaf (ask_r address) = false
is_deaf (ask_w address r) = false
is_deaf (byte_s write address nth unconfirmed) = false
is_deaf (sends address nth left w) = false
is_deaf (takes address nth left so_far) = false
is_deaf (ask_p write good address nth) = false
is_deaf (acknowledge column ids cmd number) = false
is_deaf (ask_ex cmd concerned) = false

-- Chain: "A slave with nothing to say passes on the bit it sees": at power-on, at rest and deaf it has nothing to say.
abbrev pub says_nothing : Timed protocol.Phase → Bool
says_nothing (power z) = true
says_nothing rest = true
says_nothing (frame z p) = is_deaf p

-- A bit and nothing else ..
abbrev pub passed_on : (sent : Bool) → Reply
passed_on sent = record { sent = sent; stored = None; ran = None }

-- .. beside the next phase.
abbrev pub said : (next : Phase) → (sent : Bool) → Phase × Reply
said next sent = (next, passed_on sent)

-- What was seen at an address is what a slave's memory allows and holds there, and its waiting number ..
pub record SeenAt (k : Memory) (address : ℕ) (seen : Seen) : Type 0 where
  pub right_there : (write : Bool) → allows k write address ≡ bit (num write) seen.right
  pub byte_there : holds k address ≡ seen.byte
  pub wait_there : k.wait ≡ seen.wait

-- .. where a slave looks at one; else it may be anything.
abbrev pub SeenIn : Memory → (address : Maybe ℕ) → Seen → Type 0
SeenIn k None seen = Unit {0}
SeenIn k (Some address) seen = SeenAt k address seen

-- A memory in which a byte is stored at an address, or none ..
abbrev pub stored_by : Maybe ℕ → (address : Maybe ℕ) → Memory → Memory
stored_by None address k = k
stored_by (Some byte) None k = k
stored_by (Some byte) (Some address) k = stored k address byte

-- .. and after the execution of a code, or of none.
abbrev pub ran_by : Maybe ℕ → Memory → Memory
ran_by None k = k
ran_by (Some code) k = counted k code

-- A memory after a reply: its byte is stored, its code is executed, and nothing else changes.
abbrev pub left_by : Reply → (address : Maybe ℕ) → Memory → Memory
left_by r address k = ran_by r.ran (stored_by r.stored address k)

-- A column that is not the fourteenth zero, over any memory that has what was seen at the phase's address ..
abbrev pub Spoken : Phase → Seen → Phase × Reply → Type 0
Spoken phase seen r =
    (k : Memory) → SeenIn k (address_by phase) seen
    → protocol.speak k (phase_of phase) seen.master seen.far
    ≡ protocol.turn (phase_of r.0) r.1.sent (left_by r.1 (address_by phase) k)

-- .. is what a phase's function promises; and where no register is looked at nothing is stored.
pub record Meets (phase : Phase) (seen : Seen) (r : Phase × Reply) : Type 0 where
  pub over : Spoken phase seen r
  pub unstored : address_by phase ≡ None → r.1.stored ≡ None

-- The step of protocol's slave that a next state and a reply stand for.
abbrev pub step_of : Memory → (address : Maybe ℕ) → Slave × Reply → protocol.Step
step_of k address r = record { state = state_of r.0; says = protocol.reply r.1.sent (left_by r.1 address k) }

-- The step of protocol's slave, over any memory that has what was seen at the slave's address ..
abbrev pub Stepped : Slave → Seen → Slave × Reply → Type 0
Stepped s seen r =
    (k : Memory) → SeenIn k (address_of s) seen → protocol.step (protocol.slave k (state_of s)) seen.master seen.far ≡ step_of k (address_of s) r

-- .. is what step promises; and where it looks at no register nothing is stored.
pub record Steps (s : Slave) (seen : Seen) (r : Slave × Reply) : Type 0 where
  pub over : Stepped s seen r
  pub unstored : address_of s ≡ None → r.1.stored ≡ None

-- What the code's lock stands for ..
abbrev pub lock_of : Lock → protocol.Lock
lock_of l = record { number = number_of l.number; sent = l.sent }

-- .. and the lock that a column makes.
unfoldable pub locked_as : (column : ℕ) → Maybe Number → Bool → protocol.Lock
locked_as column number far = protocol.lock (min column header_columns) (number_of number) far

-- A byte whose S is confirmed, with the bits to send or those taken ..
abbrev pub confirmed_as : Asked → (word : ℕ) → Byte
confirmed_as s word = record { address = s.address; nth = s.nth; left = top_bit; word = word }

-- .. and one that has passed, with the address behind its own.
abbrev pub passed_as : Byte → Passed
passed_as b = record { next = next_address b.address; nth = b.nth }

-- A P is followed by a further byte: the last was good, the address is not the last, the right allows it, and bytes are left.
unfoldable pub goes_on : (write good : Bool) → Passed → (right : ℕ) → Bool
goes_on write good p right =
    good
    && (ltb (before (p.next % address_count) + 1) address_count && bit (num write) right && ltb p.nth byte_limit)
