-- The reader: two rows alone, column by column, from power-on; the list of entries that they show.
-- It does not judge the answers at S, in columns 10 to 15 after S, at a 0 in a byte's S or a command's, at S of a broadcast, at EX, or at
-- a fourteenth zero.
use Rattle.std.specs.Prelude.{Bool, true, false, cond, ◌&&◌, ◌||◌, List, [], ◌∷◌, ℕ, zero, suc, ◌+◌, ◌-◌, ◌*◌, ◌%◌, ◌^◌, ltb, drop}
use Rattle.std.specs.Bool.{beq}
use Rattle.std.proofs.Math.Option.{Option}
use Rattle.protocol.specs.Limits.{header_columns, id_count, lock_first, lock_last, address_count, byte_limit}
use Rattle.protocol.specs.Bits.{num, push}
use Rattle.protocol.specs.Rest.{Timed, power_on, Judged, judge}
use Rattle.protocol.specs.Machine as machine
use Rattle.protocol.specs.Machine.{go, gives, listing}
use Rattle.protocol.specs.Division.{data_bits, top_bit, fits, byte_of}
use Rattle.protocol.specs.Header.{Header, wrong, access, command, header}
use Rattle.protocol.specs.Commands.{broadcast, acknowledgement, execute_column}
use Rattle.protocol.specs.Entries.{Kind, Event, event, Place, opened, onward, Entry, note}
use Rattle.protocol.specs.Banks.{Banked, unknown, banked}

-- What the lock columns showed so far: ones alone, so many ones and then zeros, or any other pattern.
pub data Locks : Type 0 where
  ones : Locks
  upto : ℕ → Locks
  mixed : Locks

-- lock: "ones then zeros". This column's lock is IDL `idl`.
unfoldable pub seen : (idl : ℕ) → Locks → Bool → Locks
seen idl ones true = ones
seen idl ones false = upto idl
seen idl (upto n) true = mixed
seen idl (upto n) false = upto n
seen idl mixed x = mixed

-- A column before IDL0's shows no lock.
abbrev pub seen_at : (column : ℕ) → Locks → Bool → Locks
seen_at column l x = cond (ltb column lock_first) l (seen (column - lock_first) l x)

-- `column` counts from 1 after S, and behind a command's header from 0 at its S; `nth` is the byte's place in the access, from 1;
-- `unconfirmed` says that its S came and was not confirmed; `left` counts a byte's bits down; `fitting` says that each answer to a command was
-- as it should be so far.
pub data Phase : Type 0 where
  deaf : Phase
  locks : (column so_far : ℕ) → Locks → Phase
  head : (column so_far lock : ℕ) → Phase
  ask_r : (id address lock : ℕ) → Phase
  ask_w : (id address lock : ℕ) → (r answered : Bool) → Phase
  byte_s : (write : Bool) → (id address nth : ℕ) → (unconfirmed : Bool) → Phase
  reads : (id address nth left so_far : ℕ) → Phase
  writes : (id address nth left so_far : ℕ) → (echoed : Bool) → Phase
  ask_p : (write : Bool) → (id address nth : ℕ) → Phase
  acknowledge : (column ids cmd lock so_far : ℕ) → (fitting : Bool) → Phase
  ask_ex : (ids cmd : ℕ) → (fitting : Bool) → Phase

-- What a column makes of the reader in a frame: its next phase, and perhaps an event ..
abbrev pub Look : Type 0
Look = machine.Turn Phase (Option Event)

-- .. and behind the timer.
abbrev pub Step : Type 0
Step = machine.Step Phase (Option Event)

-- lock: "value = how many of IDL0..7 are 1, or 9 if IDL8 is 1 after eight". lockodd: "any other lock pattern; deaf".
unfoldable pub locked : (column so_far : ℕ) → Locks → Look
locked column so_far ones = gives (event Kind.lock 0 0 (id_count + 1)) (head (column + 1) so_far (id_count + 1))
locked column so_far (upto n) = gives (event Kind.lock 0 0 n) (head (column + 1) so_far n)
locked column so_far mixed = gives (event Kind.lockodd 0 0 0) deaf

-- badhead: "last header column, check wrong". command: "last header column, CTS 0, check right", "id = CMD, value = IDS".
unfoldable pub headed : Header → (lock : ℕ) → Look
headed wrong lock = gives (event Kind.badhead 0 0 0) deaf
headed (command ids cmd) lock = gives (event Kind.command cmd 0 ids) (acknowledge 0 ids cmd lock 0 true)
headed (access id address) lock = go (ask_r id address lock)

-- odd: "any other answer at W but acceptance by a locked ID (value = 2 x answered R + answered W)".
abbrev pub odd_answer : (id address : ℕ) → (answered_r answered_w : Bool) → Look
odd_answer id address answered_r answered_w =
    gives (event Kind.odd id address (2 * num answered_r + num answered_w)) deaf

-- Acceptance: R and W repeated. refused: "ID locked, R repeated, W inverted", "value 1 for a write".
abbrev pub acceptance : (id address : ℕ) → (r answered_r w answered_w : Bool) → Look
acceptance id address r answered_r w answered_w =
    cond (beq answered_r r)
    (cond (beq answered_w w) (go (byte_s w id address 1 false)) (gives (event Kind.refused id address (num w)) deaf))
    (odd_answer id address answered_r answered_w)

-- absent: "answered 0 0, ID not locked".
abbrev pub silence : (id address : ℕ) → (answered_r answered_w : Bool) → Look
silence id address answered_r answered_w =
    cond (answered_r || answered_w) (odd_answer id address answered_r answered_w)
    (gives (event Kind.absent id address 0) deaf)

-- pair: "W's column, R = W". "A locked ID is one below the lock value (all eight, if it is 9)."
unfoldable pub asked : (id address lock : ℕ) → (r answered_r w answered_w : Bool) → Look
asked id address lock r answered_r w answered_w =
    cond (beq r w) (gives (event Kind.pair id address 0) deaf)
    (cond (ltb id lock) (acceptance id address r answered_r w answered_w) (silence id address answered_r answered_w))

-- read, readbad: "last check column of a read, CDS check right, wrong".
abbrev pub read_kind : (word : ℕ) → Kind
read_kind word = cond (fits data_bits word) Kind.read Kind.readbad

-- written, writebad: "last check column of a write, CDM check right, wrong". echo: "as 11, but the echo differs in some bit".
abbrev pub write_kind : (word : ℕ) → (echoed : Bool) → Kind
write_kind word echoed = cond (fits data_bits word) (cond echoed Kind.written Kind.echo) Kind.writebad

-- Request 07: an answer fits the locks and IDS. In a broadcast none is judged: 000, "the IDA bits are omitted".
abbrev pub fits_ida : (column ids lock : ℕ) → (x : Bool) → Bool
fits_ida column ids lock x = broadcast ids || beq x (acknowledgement column ids lock)

-- ackodd: the eight answers do not fit, in IDA7's column; they are its value. EX is read all the same.
abbrev pub acknowledged : (column ids cmd lock so_far : ℕ) → (fitting x : Bool) → Look
acknowledged column ids cmd lock so_far fitting x =
    let still_fitting : Bool = fitting && fits_ida column ids lock x in
    cond (ltb (column + 1) (execute_column ids)) (go (acknowledge (column + 1) ids cmd lock (push so_far x) still_fitting))
    (cond still_fitting (go (ask_ex ids cmd true))
    (gives (event Kind.ackodd cmd 0 (push so_far x % 2 ^ id_count)) (ask_ex ids cmd false)))

-- executed: EX = 1. forced: EX = 1 after an acknowledgement that does not fit.
abbrev pub executed_kind : (fitting : Bool) → Kind
executed_kind fitting = cond fitting Kind.executed Kind.forced

-- "Address is the header's up to W, then that of the byte which S opens, the bits carry or P closes."
unfoldable pub look : Phase → (m x : Bool) → Look
look deaf m x = go deaf
look (locks column so_far l) m x =
    cond (ltb column lock_last) (go (locks (column + 1) (push so_far m) (seen_at column l x)))
    (locked column (push so_far m) (seen_at column l x))
look (head column so_far lock) m x =
    cond (ltb column header_columns) (go (head (column + 1) (push so_far m) lock))
    (headed (header (push so_far m)) lock)
look (ask_r id address lock) m x = go (ask_w id address lock m x)
look (ask_w id address lock r answered) m x = asked id address lock r answered m x
-- "The reader is deaf .. after a 0 at S." Request 03: "The reader lists `mute` only when the master gives up unconfirmed after a 1, in the
-- column of that 0."
look (byte_s write id address nth unconfirmed) false x = cond unconfirmed (gives (event Kind.mute id address 0) deaf) (go deaf)
look (byte_s write id address nth unconfirmed) true false = go (byte_s write id address nth true)
look (byte_s false id address nth unconfirmed) true true = go (reads id address nth top_bit 0)
look (byte_s true id address nth unconfirmed) true true = go (writes id address nth top_bit 0 true)
look (reads id address nth (suc left) so_far) m x = go (reads id address nth left (push so_far x))
look (reads id address nth zero so_far) m x =
    let word : ℕ = push so_far x in
    gives (event (read_kind word) id address (byte_of word)) (ask_p false id address nth)
look (writes id address nth (suc left) so_far echoed) m x =
    go (writes id address nth left (push so_far m) (echoed && beq x m))
look (writes id address nth zero so_far echoed) m x =
    let word : ℕ = push so_far m in
    gives (event (write_kind word (echoed && beq x m)) id address (byte_of word)) (ask_p true id address nth)
-- closed: "P answered 1". odd: "P answered 0 at address 127 or the 64th byte (value 4)".
look (ask_p write id address nth) m true = gives (event Kind.closed id address 0) deaf
look (ask_p write id address nth) m false =
    cond (ltb (address + 1) address_count && ltb nth byte_limit) (go (byte_s write id (address + 1) (nth + 1) false))
    (gives (event Kind.odd id address 4) deaf)
look (acknowledge zero ids cmd lock so_far fitting) false x = go deaf
look (acknowledge zero ids cmd lock so_far fitting) true x = acknowledged zero ids cmd lock so_far fitting x
look (acknowledge (suc column) ids cmd lock so_far fitting) m x = acknowledged (suc column) ids cmd lock so_far fitting x
-- withheld: EX = 0. "id = CMD, value = IDS", as of a `command`.
look (ask_ex ids cmd fitting) false x = gives (event Kind.withheld cmd 0 ids) deaf
look (ask_ex ids cmd fitting) true x = gives (event (executed_kind fitting) cmd 0 ids) deaf

-- "A deaf reader still gives `end`."
abbrev pub stepped : Judged Phase → (m x : Bool) → Step
stepped j m x = listing (λ p. look p m x) j

-- The phase after S: no lock seen, no header bit.
abbrev pub begun : Phase
begun = locks 1 0 ones

-- One column of the reader: the fourteenth zero is judged first.
unfoldable pub step : Timed Phase → (m x : Bool) → Step
step s m x = stepped (judge begun s m) m x

-- Columns: "A column pairs a CDM bit with the CDS bit that answers it".
pub data Column : Type 0 where
  col : (m x : Bool) → Column

-- Two rows, column by column.
unfoldable pub columns : List Bool → List Bool → List Column
columns [] xs = []
columns (m ∷ ms) [] = []
columns (m ∷ ms) (x ∷ xs) = col m x ∷ columns ms xs

-- The entries that columns show to a reader in state s, the first of them at place p of the row.
unfoldable pub entries : Timed Phase → Place → List Column → List Entry
entries s p [] = []
entries s p (col m x ∷ cs) = note p (step s m x).says (entries (step s m x).state (onward (step s m x).state p) cs)

-- The reader's state after columns ..
unfoldable pub after : Timed Phase → List Column → Timed Phase
after s [] = s
after s (col m x ∷ cs) = after (step s m x).state cs

-- .. and the place behind them.
unfoldable pub place_after : Timed Phase → Place → List Column → Place
place_after s p [] = p
place_after s p (col m x ∷ cs) = place_after (step s m x).state (onward (step s m x).state p) cs

-- "An entry's column counts from the start of the row, wherever the reader was let in": let in at column k, at power-on ..
unfoldable pub entries_from : (k : ℕ) → List Column → List Entry
entries_from k cs = entries power_on (opened k) (drop k cs)

-- .. and with their banks the list.
unfoldable pub list_from : (k : ℕ) → List Column → List Banked
list_from k cs = banked unknown (entries_from k cs)
