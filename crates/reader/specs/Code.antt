-- What the code's state is to protocol's reader, for the contracts of this crate: nothing here is needed to read what read promises.
-- Every value of the code's types is some state of the definitions, so no contract asks anything of a state.
use Rattle.std.specs.Prelude.{cond, ℕ, suc, ◌%◌, min, Option, Some, None}
use Rattle.std.proofs.Math.Option as Math
use Rattle.std.proofs.Math.Option.{none, some}
use Rattle.protocol.specs.Limits.{lock_last, execute_addressed}
use Rattle.protocol.specs.Rest.{Timed, power, rest, frame, framed}
use Rattle.protocol.specs.Entries as entries
use Rattle.protocol.specs.Entries.{Place, onward}
use Rattle.protocol.specs.Reader as protocol
use Rattle.protocol.specs.Reader.{ones, upto, mixed, deaf, locks, head, ask_r, ask_w, byte_s, reads, writes, ask_p, acknowledge, ask_ex, Look, Step}
use Rattle.kinds.specs.declared.Kind.{Kind}
use Rattle.kinds.specs.Kinds.{kind_by}
use Rattle.machine.specs.Zeros.{timed}
use Rattle.reader.specs.declared.Locks as code
use Rattle.reader.specs.declared.Locks.TheVariants.{Ones, Upto, Mixed}
use Rattle.reader.specs.declared.Phase.{Phase}
use Rattle.reader.specs.declared.Phase.TheVariants.{Deaf, Locks, Head, AskR, AskW, ByteS, Reads, Writes, AskP, Acknowledge, AskEX}
use Rattle.reader.specs.declared.Form.{Form}
use Rattle.reader.specs.declared.Frame.{Frame}
use Rattle.reader.specs.declared.Form.TheVariants as Forms
use Rattle.reader.specs.declared.Form.TheVariants.{Outside}
use Rattle.reader.specs.declared.Waiting.TheVariants.{Power, Rest}
use Rattle.reader.specs.declared.Reader.{Reader}
use Rattle.reader.specs.declared.Event.{Event}
use Rattle.reader.specs.declared.Turn.{Turn}
use Rattle.reader.specs.declared.Stepped.{Stepped}

-- What the lock columns showed.
abbrev pub locks_of : code.Locks → protocol.Locks
locks_of Ones = ones
locks_of (Upto n) = upto n
locks_of Mixed = mixed

-- A phase with what is remembered beside it; no lock column is past IDL8's, and no answer to a command past the last ID's.
abbrev pub phase_by : Phase → Frame → protocol.Phase
phase_by Deaf f = deaf
phase_by Locks f = locks (min f.column lock_last) f.word (locks_of f.seen)
phase_by Head f = head f.column f.word f.lock
phase_by AskR f = ask_r f.id f.address f.lock
phase_by AskW f = ask_w f.id f.address f.lock f.r f.answered
phase_by ByteS f = byte_s f.write f.id f.address f.nth f.unconfirmed
phase_by Reads f = reads f.id f.address f.nth f.left f.word
phase_by Writes f = writes f.id f.address f.nth f.left f.word f.echoed
phase_by AskP f = ask_p f.write f.id f.address f.nth
phase_by Acknowledge f = acknowledge (f.column % execute_addressed) f.ids f.cmd f.lock f.word f.fitting
phase_by AskEX f = ask_ex f.ids f.cmd f.fitting

-- Where in a frame the reader is.
abbrev pub phase_of : Frame → protocol.Phase
phase_of f = phase_by f.phase f

-- A form with no zeros counted ..
abbrev pub form_by : Form → Frame → Timed protocol.Phase
form_by (Outside Power) f = power 0
form_by (Outside Rest) f = rest
form_by Forms.Frame f = frame 0 (phase_of f)

-- .. and the state of a reader, with as many zeros in a row as it saw just now.
unfoldable pub state_of : Reader → Timed protocol.Phase
state_of r = timed r.zeros (form_by r.form r.frame)

-- Where in the row it stands, at a column: out of a frame the S that it holds does not matter.
abbrev pub place_of : Reader → (column : ℕ) → Place
place_of r column = record { column = column; start = cond (framed (state_of r)) r.start column }

-- An event by its fields ..
abbrev pub said : Kind → (id address value : ℕ) → Event
said kind id address value = record { kind = kind; id = id; address = address; value = value }

-- .. as protocol has it ..
abbrev pub event_of : Event → entries.Event
event_of e = record { kind = kind_by e.kind; id = e.id; address = e.address; value = e.value }

-- .. or none.
abbrev pub says_of : Option Event → Math.Option entries.Event
says_of None = none
says_of (Some e) = some (event_of e)

-- What a column makes of a frame.
abbrev pub turn_of : Turn → Look
turn_of t = record { next = phase_of t.next; says = says_of t.says }

-- What a step makes of a state: ..
pub record Moved : Type 0 where
  pub state : Timed protocol.Phase
  pub place : Place
  pub says : Math.Option entries.Event

-- .. protocol's step at a place ..
unfoldable pub moved : Step → Place → Moved
moved s p = record { state = s.state; place = onward s.state p; says = s.says }

-- .. and the step that the code made in a column.
unfoldable pub after : (column : ℕ) → Stepped → Moved
after column r = record { state = state_of r.next; place = place_of r.next (suc column); says = says_of r.event }
