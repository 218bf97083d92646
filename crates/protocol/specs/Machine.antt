-- A machine behind the timer: what Slave, Reader and Account share. P are its phases, S is what it says in a column; a column is a
-- phase's only as Rest's judge hands it over.
use Rattle.std.proofs.Math.Option.{Option, none, some}
use Rattle.std.specs.Prelude.{ℕ}
use Rattle.protocol.specs.Rest.{Timed, rest, frame, Judged, still, ends, meant}
use Rattle.protocol.specs.Entries.{Kind, Event, event}

-- What a column makes of a machine in a frame: its next phase, and what it says ..
pub record Turn (P S : Type 0) : Type 0 where
  pub next : P
  pub says : S

-- .. and what it makes of the machine behind the timer.
pub record Step (P S : Type 0) : Type 0 where
  pub state : Timed P
  pub says : S

-- A turn taken in a frame, with z zeros counted.
abbrev pub taken : {P S : Type 0} → ℕ → Turn P S → Step P S
taken z t = record { state = frame z t.next; says = t.says }

-- Rest: "The fourteenth zero is judged before any other meaning of its column": only a column of a frame is the phase's to say.
abbrev pub stepped : {P S : Type 0} → (silent ended : S) → (P → Turn P S) → Judged P → Step P S
stepped silent ended turn (still s) = record { state = s; says = silent }
stepped silent ended turn ends = record { state = rest; says = ended }
stepped silent ended turn (meant z p) = taken z (turn p)

-- Reader and Account say an event or none. On to the next phase, and no event ..
abbrev pub go : {P : Type 0} → P → Turn P (Option Event)
go p = record { next = p; says = none }

-- .. or with one.
abbrev pub gives : {P : Type 0} → Event → P → Turn P (Option Event)
gives e p = record { next = p; says = some e }

-- end: "the fourteenth zero after a frame was begun".
abbrev pub listing : {P : Type 0} → (P → Turn P (Option Event)) → Judged P → Step P (Option Event)
listing turn j = stepped none (some (event Kind.end 0 0 0)) turn j
