-- Every field of an entry that rows show is a byte, and its column is one of theirs: what a reader holds in each phase. Assumes nothing.
use mathlib.Core.Bool.{Bool, true, false, ◌&&◌, ◌||◌, beq}
use mathlib.Core.List.{List, [], ◌∷◌}
use mathlib.Core.Option.{Option, none, some}
use Prim.Native.Nat.{ℕ, zero, suc, ◌+◌, ◌-◌, ◌/◌, ◌%◌, ◌^◌, ◌≤◌, ◌<◌}
use native.Mathlib.Nat.{le_refl}
use native.Mathlib.Omega.{arith}
use borrow.Author.Tests.{ltb-true}
use lib.Dec.{ltb}
use lib.ListN.{length, get_or, replicate, length-drop}
use Rattle.protocol.specs.Limits.{header_columns, id_count, lock_first, lock_last, address_count, byte_limit}
use Rattle.protocol.specs.Bits.{num, bit, push, row_of}
use Rattle.protocol.specs.Rest.{Timed, power_on}
use Rattle.protocol.specs.Division.{header_bits, check_width, fits, byte_of}
use Rattle.protocol.specs.Header.{Header, wrong, access, command, header}
use Rattle.protocol.specs.Commands.{execute_column}
use Rattle.protocol.specs.Entries.{Kind, table, Event, event, Place, opened, onward, Entry}
use Rattle.protocol.specs.Banks.{Banked, no_bank, unknown, chooses_bank, learnt, names_bank, bank_of, banked}
use Rattle.protocol.specs.Reader.{Locks, ones, upto, mixed, seen, seen_at, Phase, deaf, locks, head, ask_r, ask_w, byte_s, reads, writes, ask_p, acknowledge, ask_ex, Look, locked, headed, odd_answer, asked, read_kind, write_kind, fits_ida, acknowledged, executed_kind, look, step, Column, col, columns, entries, entries_from, list_from}
use Rattle.laws.proofs.Every.{Every, IfAny, either, tested, both}
use Rattle.laws.proofs.Places.{set_keeps}
use Rattle.protocol.proofs.Machine.{At, keeps, every_note}
use Rattle.read.specs.Read.{list_of}
use Rattle.read.proofs.Left.{start_early, length_columns}

-- A byte.
abbrev Byte : ℕ → Type 0
Byte n = n < 256

-- The fields of an event.
abbrev Bytes : Event → Type 0
Bytes e = Byte e.id × Byte e.address × Byte e.value

none_byte : Byte 0
none_byte = omega arith

event_bytes : (k : Kind) (id address value : ℕ) → Byte id → Byte address → Byte value → Bytes (event k id address value)
event_bytes k id address value i a v =
    (either Byte (table k).has_id i none_byte, either Byte (table k).has_address a none_byte, either Byte (table k).has_value v none_byte)

-- Of no ID and no address.
plain_bytes : (k : Kind) (value : ℕ) → Byte value → Bytes (event k 0 0 value)
plain_bytes k value v = event_bytes k 0 0 value none_byte none_byte v

-- What a reader holds: the lock counted so far, the header's ID and address or the next one, or a command's IDS and CMD.
abbrev Counted : Locks → Type 0
Counted ones = Unit {0}
Counted (upto n) = Byte n
Counted mixed = Unit {0}

abbrev Held : Phase → Type 0
Held deaf = Unit {0}
Held (locks column so_far l) = (column ≤ lock_last) × Counted l
Held (head column so_far lock) = Unit {0}
Held (ask_r id address lock) = Byte id × Byte address
Held (ask_w id address lock r answered) = Byte id × Byte address
Held (byte_s write id address nth unconfirmed) = Byte id × Byte address
Held (reads id address nth left so_far) = Byte id × Byte address
Held (writes id address nth left so_far echoed) = Byte id × Byte address
Held (ask_p write id address nth) = Byte id × Byte address
Held (acknowledge column ids cmd lock so_far fitting) = Byte ids × Byte cmd
Held (ask_ex ids cmd fitting) = Byte ids × Byte cmd

-- What a column makes of it.
abbrev Good : Look → Type 0
Good l = Held l.next × IfAny Bytes l.says

held_seen : (idl : ℕ) (l : Locks) (x : Bool) → Byte idl → Counted l → Counted (seen idl l x)
unfolding seen
held_seen idl ones true h l = tt
held_seen idl ones false h l = h
held_seen idl (upto n) true h l = tt
held_seen idl (upto n) false h l = l
held_seen idl mixed x h l = tt

held_seen_at : (column : ℕ) (l : Locks) (x : Bool) → column ≤ lock_last → Counted l → Counted (seen_at column l x)
held_seen_at column l x h c =
    either Counted (ltb column lock_first) c (held_seen (column - lock_first) l x (omega arith) c)

good_locked : (column so_far : ℕ) (l : Locks) → Counted l → Good (locked column so_far l)
unfolding locked
good_locked column so_far ones h = (tt, plain_bytes Kind.lock 9 (omega arith))
good_locked column so_far (upto n) h = (tt, plain_bytes Kind.lock n h)
good_locked column so_far mixed h = (tt, plain_bytes Kind.lockodd 0 none_byte)

abbrev Said : Header → Type 0
Said wrong = Unit {0}
Said (access id address) = Byte id × Byte address
Said (command ids cmd) = Byte ids × Byte cmd

said_header : (w : ℕ) → Said (header w)
unfolding header
said_header w =
    either Said (fits header_bits w) (either Said (bit 10 (w / 2 ^ check_width)) (accessed (w / 2 ^ check_width)) (commanded (w / 2 ^ check_width))) tt
  where
    accessed : (v : ℕ) → Said (access (v / 2 ^ 7 % 2 ^ 3) (v % 2 ^ 7))
    accessed v = (omega arith, omega arith)

    commanded : (v : ℕ) → Said (command (v / 2 ^ 2 % 2 ^ 8) (v % 2 ^ 2))
    commanded v = (omega arith, omega arith)

good_headed : (h : Header) (lock : ℕ) → Said h → Good (headed h lock)
unfolding headed
good_headed wrong lock h = (tt, plain_bytes Kind.badhead 0 none_byte)
good_headed (access id address) lock h = (h, tt)
good_headed (command ids cmd) lock h = (h, event_bytes Kind.command cmd 0 ids h.1 none_byte h.0)

-- The answers to a command, and EX.
module _ (ids cmd : ℕ) (h : Byte ids × Byte cmd) where
  good_command : (k : Kind) (value : ℕ) → Byte value → Bytes (event k cmd 0 value)
  good_command k value v = event_bytes k cmd 0 value h.1 none_byte v

  good_acknowledged : (column lock so_far : ℕ) (fitting x : Bool) → Good (acknowledged column ids cmd lock so_far fitting x)
  good_acknowledged column lock so_far fitting x =
      either Good (ltb (column + 1) (execute_column ids)) (h, tt)
      (either Good (fitting && fits_ida column ids lock x) (h, tt) (h, good_command Kind.ackodd (push so_far x % 2 ^ id_count) (omega arith)))

-- The answers at W.
num_low : (w : Bool) → num w < 2
num_low true = omega arith
num_low false = omega arith

module _ (id address : ℕ) (i : Byte id) (a : Byte address) where
  good_event : (k : Kind) (value : ℕ) → Byte value → Bytes (event k id address value)
  good_event k value v = event_bytes k id address value i a v

  good_asked : (lock : ℕ) (r answered_r w answered_w : Bool) → Good (asked id address lock r answered_r w answered_w)
  unfolding asked
  good_asked lock r answered_r w answered_w =
      let other : Good (odd_answer id address answered_r answered_w) = (tt, good_event Kind.odd _ (omega (arith, num_low answered_r, num_low answered_w))) in
      either Good (beq r w) (tt, good_event Kind.pair 0 none_byte)
      (either Good (ltb id lock)
      (either Good (beq answered_r r)
      (either Good (beq answered_w w) ((i, a), tt) (tt, good_event Kind.refused _ (omega (arith, num_low w)))) other)
      (either Good (answered_r || answered_w) other (tt, good_event Kind.absent 0 none_byte)))

byte_of_lem : (w : ℕ) → Byte (byte_of w)
unfolding byte_of
byte_of_lem w = omega arith

good_look : (p : Phase) (m x : Bool) → Held p → Good (look p m x)
unfolding look
good_look deaf m x h = (tt, tt)
good_look (locks column so_far l) m x h =
    let counted = held_seen_at column l x h.0 h.1 in
    tested (ltb column lock_last) (λ q. rw q ((omega (arith, ltb-true column lock_last q), counted), tt))
    (λ q. rw q (good_locked column (push so_far m) _ counted))
good_look (head column so_far lock) m x h =
    either Good (ltb column header_columns) (tt, tt) (good_headed _ lock (said_header (push so_far m)))
good_look (ask_r id address lock) m x h = (h, tt)
good_look (ask_w id address lock r answered) m x h = good_asked id address h.0 h.1 lock r answered m x
good_look (byte_s write id address nth unconfirmed) false x h =
    either Good unconfirmed (tt, good_event id address h.0 h.1 Kind.mute 0 none_byte) (tt, tt)
good_look (byte_s write id address nth unconfirmed) true false h = (h, tt)
good_look (byte_s false id address nth unconfirmed) true true h = (h, tt)
good_look (byte_s true id address nth unconfirmed) true true h = (h, tt)
good_look (reads id address nth (suc left) so_far) m x h = (h, tt)
good_look (reads id address nth zero so_far) m x h = (h, good_event id address h.0 h.1 (read_kind (push so_far x)) _ (byte_of_lem (push so_far x)))
good_look (writes id address nth (suc left) so_far echoed) m x h = (h, tt)
good_look (writes id address nth zero so_far echoed) m x h = (h, good_event id address h.0 h.1 (write_kind (push so_far m) (echoed && beq x m)) _ (byte_of_lem (push so_far m)))
good_look (ask_p write id address nth) m true h = (tt, good_event id address h.0 h.1 Kind.closed 0 none_byte)
good_look (ask_p write id address nth) m false h =
    tested (ltb (address + 1) address_count && ltb nth byte_limit)
    (λ q.
    let next : address + 1 < address_count = ltb-true _ _ (both _ _ q).0 in
    rw q ((h.0, omega arith), tt))
    (λ q. rw q (tt, good_event id address h.0 h.1 Kind.odd 4 (omega arith)))
good_look (acknowledge zero ids cmd lock so_far fitting) false x h = (tt, tt)
good_look (acknowledge zero ids cmd lock so_far fitting) true x h = good_acknowledged ids cmd h zero lock so_far fitting x
good_look (acknowledge (suc column) ids cmd lock so_far fitting) m x h = good_acknowledged ids cmd h (suc column) lock so_far fitting x
good_look (ask_ex ids cmd fitting) false x h = (tt, good_command ids cmd h Kind.withheld ids h.0)
good_look (ask_ex ids cmd fitting) true x h = (tt, good_command ids cmd h (executed_kind fitting) ids h.0)

-- The same behind the timer.
good_step : (s : Timed Phase) (m x : Bool) → At Held s → At Held (step s m x).state × IfAny Bytes (step s m x).says
unfolding step
good_step s m x h =
    keeps Held (omega arith, tt) (IfAny Bytes) tt (plain_bytes Kind.end 0 none_byte)
    (λ p g. good_look p m x g) s m h

-- A column below the limit, a start before it, and fields that are bytes: of an entry before its bank is known ..
abbrev Shown : (limit : ℕ) → Entry → Type 0
Shown limit e = (e.place.column < limit) × (e.place.start ≤ e.place.column) × Bytes e.event

shown_entries : (s : Timed Phase) (p : Place) (cs : List Column) (limit : ℕ) → At Held s → p.start ≤ p.column
    → p.column + length cs ≤ limit → Every (Shown limit) (entries s p cs)
unfolding entries
shown_entries s p [] limit h early l = tt
shown_entries s p (col m x ∷ cs) limit h early l =
    let good = good_step s m x h in
    let next : Timed Phase = (step s m x).state in
    every_note (Shown limit) p (step s m x).says (entries next (onward next p) cs) (here (step s m x).says good.1)
    (shown_entries next (onward next p) cs limit good.0 (start_early next p early) (omega arith))
  where
    here : (o : Option Event) → IfAny Bytes o → IfAny (λ e. Shown limit (record { place = p; event = e })) o
    here none b = tt
    here (some e) b = (omega arith, early, b)

-- .. and with it: what is known of each bank is a byte, at first and behind every entry.
abbrev Known : List ℕ → Type 0
Known known = (id : ℕ) → Byte (get_or known id no_bank)

none_known : (n : ℕ) → Known (replicate n no_bank)
none_known zero id = omega arith
none_known (suc n) zero = omega arith
none_known (suc n) (suc id) = none_known n id

abbrev pub Small : (limit : ℕ) → Banked → Type 0
Small limit e = Shown limit e.entry × Byte e.bank

small_banked : (limit : ℕ) (known : List ℕ) (es : List Entry) → Known known → Every (Shown limit) es
    → Every (Small limit) (banked known es)
unfolding banked bank_of learnt
small_banked limit known [] bytes h = tt
small_banked limit known (e ∷ es) bytes h =
    let more : Known (learnt known e.event)
    = either Known (chooses_bank e.event)
    (λ id. set_keeps Byte known e.event.id id e.event.value no_bank h.0.2.2 (bytes id)) bytes in (
      (h.0, either Byte (names_bank e.event) (bytes e.event.id) (omega arith)),
      small_banked limit (learnt known e.event) es more h.1,
    )

pub small_list : (k : ℕ) (cdm cds : List ℕ) → k ≤ length cdm → Every (Small (length cdm)) (list_of k cdm cds)
unfolding list_of list_from entries_from
small_list k cdm cds h =
    small_banked (length cdm) unknown _ (none_known id_count)
    (shown_entries power_on (opened k) _ (length cdm) tt (le_refl k)
    (omega (arith, length-drop k (columns (row_of cdm) (row_of cds)), length_columns cdm cds)))
