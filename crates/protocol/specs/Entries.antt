-- Entries: the table of kinds, what a column shows, and where: an entry.
use Rattle.std.specs.Prelude.{Bool, true, false, cond, List, [], ◌∷◌, ℕ, suc, eqb}
use Rattle.std.proofs.Math.Option.{Option, none, some}
use Prim.Native.Char.{code}
use Prim.Native.String.{String}
use Prim.Native.String as Text
use Rattle.protocol.specs.Rest.{Timed, framed}

-- The names of the kinds, in the table's order.
pub data Kind : Type 0 where
  lock lockodd badhead command pair absent refused odd mute read written readbad writebad echo end closed executed withheld ackodd forced : Kind

-- A name's bytes.
abbrev pub bytes : String → List ℕ
bytes Text.[] = []
bytes (Text.◌∷◌ c s) = code c ∷ bytes s

-- What the table says of a kind: its number, its name, and whether it names the fields id, address and value.
pub record InTable : Type 0 where
  pub number : ℕ
  pub name : List ℕ
  pub has_id : Bool
  pub has_address : Bool
  pub has_value : Bool

-- .. by its parts.
abbrev pub tells : ℕ → String → (has_id has_address has_value : Bool) → InTable
tells number name i a v = record { number = number; name = bytes name; has_id = i; has_address = a; has_value = v }

-- Entries: the table. The last three say whether id, address and value are among the fields.
abbrev pub table : Kind → InTable
table lock = tells 1 "lock" false false true
table lockodd = tells 2 "lockodd" false false false
table badhead = tells 3 "badhead" false false false
table command = tells 4 "command" true false true
table pair = tells 5 "pair" true true false
table absent = tells 6 "absent" true true false
table refused = tells 7 "refused" true true true
table odd = tells 8 "odd" true true true
table mute = tells 9 "mute" true true false
table read = tells 10 "read" true true true
table written = tells 11 "written" true true true
table readbad = tells 12 "readbad" true true true
table writebad = tells 13 "writebad" true true true
table echo = tells 14 "echo" true true true
table end = tells 15 "end" false false false
table closed = tells 16 "closed" true true false
-- Request 07: "the new kinds, numbered from 17".
table executed = tells 17 "executed" true false true
table withheld = tells 18 "withheld" true false true
table ackodd = tells 19 "ackodd" true false true
table forced = tells 20 "forced" true false true

-- A kind's number.
abbrev pub number : Kind → ℕ
number k = (table k).number

-- All kinds, in the table's order.
abbrev pub kinds : List Kind
kinds =
    lock ∷ lockodd ∷ badhead ∷ command ∷ pair ∷ absent ∷ refused ∷ odd ∷ mute ∷ read ∷ written ∷ readbad ∷ writebad ∷ echo ∷ end
    ∷ closed ∷ executed ∷ withheld ∷ ackodd ∷ forced ∷ []

-- The kind of a number: the first of the table that has it.
unfoldable pub numbered : ℕ → List Kind → Option Kind
numbered n [] = none
numbered n (k ∷ ks) = cond (eqb (number k) n) (some k) (numbered n ks)

-- What a column shows, wherever it stands in the row.
pub record Event : Type 0 where
  pub kind : Kind
  pub id : ℕ
  pub address : ℕ
  pub value : ℕ

-- An event is of a kind.
abbrev pub is : Kind → Event → Bool
is k e = eqb (number e.kind) (number k)

-- Entries: "Fields not named are 0."
abbrev pub event : Kind → (id address value : ℕ) → Event
event k id address value =
    record {
      kind = k;
      id = cond (table k).has_id id 0;
      address = cond (table k).has_address address 0;
      value = cond (table k).has_value value 0;
    }

-- Where in the row it stands. Request 02: "Each entry shall carry the column of its frame's S as well"; out of a frame that is the column
-- itself, where the next S would stand.
pub record Place : Type 0 where
  pub column : ℕ
  pub start : ℕ

-- "An entry's column counts from the start of the row, wherever the reader was let in": the place of one let in at column k ..
abbrev pub opened : (k : ℕ) → Place
opened k = record { column = k; start = k }

-- .. and the place one column on, by the state that the column leads to: the start goes with the frame.
abbrev pub onward : {P : Type 0} → Timed P → Place → Place
onward s p = record { column = suc p.column; start = cond (framed s) p.start (suc p.column) }

-- An entry, but for its bank (specs/Banks).
pub record Entry : Type 0 where
  pub place : Place
  pub event : Event

-- "At most one entry falls in a column."
abbrev pub note : Place → Option Event → List Entry → List Entry
note p none es = es
note p (some e) es = record { place = p; event = e } ∷ es
