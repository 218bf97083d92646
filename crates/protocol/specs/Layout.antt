-- An entry's layout as data: its fields in their order, each with its width. An entry's bytes, the entry that bytes are, a list cut into
-- entries and refusal 12 come from it, and from its order the printed list (specs/Text).
use Rattle.std.specs.Prelude.{Bool, true, false, ◌&&◌, List, [], ◌∷◌, ◌++◌, map, ℕ, ◌+◌, take}
use Rattle.std.proofs.Math.Option.{Option, none, some}
use Prim.Native.String.{String}
use Rattle.protocol.specs.Entries.{Kind, table, number, kinds, numbered}
use Rattle.protocol.specs.Banks.{Banked, names_bank}
use Rattle.protocol.specs.Pieces.{in_bytes, number_at, pieces, is_whole, joined}

-- Entries: "kind, column (two bytes, high first), id, address, value"; Request 02: "two bytes for S placed after the column"; Request
-- 05: "`bank` after the address".
pub data Field : Type 0 where
  kind column start id address bank value : Field

-- The fields that are printed as numbers, in their order ..
abbrev pub numbers : List Field
numbers = Field.column ∷ Field.start ∷ Field.id ∷ Field.address ∷ Field.bank ∷ Field.value ∷ []

-- .. behind the kind.
abbrev pub fields : List Field
fields = Field.kind ∷ numbers

-- A field's place among them.
abbrev pub order : Field → ℕ
order Field.kind = 0
order Field.column = 1
order Field.start = 2
order Field.id = 3
order Field.address = 4
order Field.bank = 5
order Field.value = 6

-- A list is of one layout, which says how wide its fields are; every list made has the layout `current`.
pub data Layout : Type 0 where
  narrow : Layout

abbrev pub current : Layout
current = narrow

-- Request 05: "An entry (nine bytes)": two of either column, and one of each other field.
abbrev pub width : Layout → Field → ℕ
width narrow Field.kind = 1
width narrow Field.column = 2
width narrow Field.start = 2
width narrow Field.id = 1
width narrow Field.address = 1
width narrow Field.bank = 1
width narrow Field.value = 1

-- What an entry has in a field.
abbrev pub value_of : Banked → Field → ℕ
value_of e Field.kind = number e.entry.event.kind
value_of e Field.column = e.entry.place.column
value_of e Field.start = e.entry.place.start
value_of e Field.id = e.entry.event.id
value_of e Field.address = e.entry.event.address
value_of e Field.bank = e.bank
value_of e Field.value = e.entry.event.value

-- Whether an entry names a field: its two columns always, its bank by its address too, the others as the table says of its kind.
abbrev pub named : Banked → Field → Bool
named e Field.kind = true
named e Field.column = true
named e Field.start = true
named e Field.id = (table e.entry.event.kind).has_id
named e Field.address = (table e.entry.event.kind).has_address
named e Field.bank = names_bank e.entry.event
named e Field.value = (table e.entry.event.kind).has_value

-- Text: a field's name in the header, "`event` TAB `column` TAB `id` TAB `address` TAB `value`"; Request 02: "gains a field `start` there";
-- Request 05: "gain `bank` after the address".
abbrev pub heading : Field → String
heading Field.kind = "event"
heading Field.column = "column"
heading Field.start = "start"
heading Field.id = "id"
heading Field.address = "address"
heading Field.bank = "bank"
heading Field.value = "value"

-- The entry of a kind, if its number is one, by what stands in the other fields.
abbrev pub entry_by : Option Kind → (Field → ℕ) → Option Banked
entry_by none v = none
entry_by (some k) v =
    some (record {
      entry = record {
        place = record { column = v Field.column; start = v Field.start };
        event = record { kind = k; id = v Field.id; address = v Field.address; value = v Field.value };
      };
      bank = v Field.bank;
    })

-- Below here nothing knows which fields there are.

-- So many bytes have these fields ..
abbrev pub widths : Layout → List Field → ℕ
widths l [] = 0
widths l (f ∷ fs) = width l f + widths l fs

-- .. and so many an entry ..
abbrev pub entry_bytes : Layout → ℕ
entry_bytes l = widths l fields

-- .. of which so many stand before a field.
abbrev pub offset : Layout → Field → ℕ
offset l f = widths l (take (order f) fields)

-- The bytes of fields, by what stands in each.
unfoldable pub field_bytes : Layout → List Field → (Field → ℕ) → List ℕ
field_bytes l [] v = []
field_bytes l (f ∷ fs) v = in_bytes (width l f) (v f) ++ field_bytes l fs v

-- An entry's bytes ..
unfoldable pub bytes_of : Layout → Banked → List ℕ
bytes_of l e = field_bytes l fields (value_of e)

-- .. and a list's, entry after entry.
unfoldable pub list_bytes : Layout → List Banked → List ℕ
list_bytes l es = joined (map (bytes_of l) es)

-- What stands in a field of the entry at place i of a list's bytes ..
abbrev pub field_at : Layout → (list : List ℕ) → (i : ℕ) → Field → ℕ
field_at l list i f = number_at (width l f) (i + offset l f) list

-- .. and that entry; none for a kind outside the table.
abbrev pub entry_at : Layout → (list : List ℕ) → (i : ℕ) → Option Banked
entry_at l list i = entry_by (numbered (field_at l list i Field.kind) kinds) (field_at l list i)

-- An entry, if it is one, before others.
abbrev pub and_more : Option Banked → List Banked → List Banked
and_more none es = es
and_more (some e) es = e ∷ es

-- The entries that pieces are ..
unfoldable pub entries_of : Layout → List (List ℕ) → List Banked
entries_of l [] = []
entries_of l (p ∷ ps) = and_more (entry_at l p 0) (entries_of l ps)

-- .. and a list's bytes.
unfoldable pub entries_in : Layout → (list : List ℕ) → List Banked
entries_in l list = entries_of l (pieces (entry_bytes l) list)

-- Some entry.
abbrev pub is_entry : Option Banked → Bool
is_entry none = false
is_entry (some e) = true

-- Every piece is an entry.
unfoldable pub all_entries : Layout → List (List ℕ) → Bool
all_entries l [] = true
all_entries l (p ∷ ps) = is_entry (entry_at l p 0) && all_entries l ps

-- Refusal 12. Request 05: "12 a multiple of 9"; "or a kind outside" the table; Request 07: "12 admits the new kinds".
unfoldable pub is_list : Layout → (list : List ℕ) → Bool
is_list l list = is_whole (entry_bytes l) list && all_entries l (pieces (entry_bytes l) list)
