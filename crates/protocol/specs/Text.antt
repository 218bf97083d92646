-- Text: rows and lists as text, and the form that paper 01 gives a text of rows. Every text here is its list of bytes.
use Rattle.std.specs.Prelude.{Bool, true, false, cond, ◌&&◌, ◌||◌, List, [], ◌∷◌, ◌++◌, map, ℕ, zero, suc, ◌+◌, ◌/◌, ◌%◌, ltb, eqb, length, drop, get_or}
use Rattle.protocol.specs.Entries.{bytes, table}
use Rattle.protocol.specs.Banks.{Banked}
use Rattle.protocol.specs.Layout.{Field, numbers, value_of, named, heading}

-- "TAB".
abbrev pub tab : ℕ
tab = 9

-- "LF".
abbrev pub feed : ℕ
feed = 10

-- "digit": the digit of a number below ten.
abbrev pub digit : ℕ → ℕ
digit n = 48 + n

-- "header `cdm` TAB `cds` LF".
abbrev pub rows_header : List ℕ
rows_header = bytes "cdm" ++ tab ∷ bytes "cds" ++ feed ∷ []

-- "then digit TAB digit LF for each column".
abbrev pub column_line : (m s : ℕ) → List ℕ
column_line m s = digit m ∷ tab ∷ digit s ∷ feed ∷ []

-- "One column a line".
unfoldable pub column_lines : (cdm cds : List ℕ) → List ℕ
column_lines [] ss = []
column_lines (m ∷ ms) [] = []
column_lines (m ∷ ms) (s ∷ ss) = column_line m s ++ column_lines ms ss

-- Two rows as text.
unfoldable pub rows_text : (cdm cds : List ℕ) → List ℕ
rows_text cdm cds = rows_header ++ column_lines cdm cds

-- What a byte of a line has to be: this byte; or in a column's line a digit 0 or 1, its TAB, its LF.
pub data Form : Type 0 where
  exactly : ℕ → Form
  bit : Form
  a_tab : Form
  a_feed : Form

-- A byte is of a form.
abbrev pub has : Form → ℕ → Bool
has (exactly x) b = eqb b x
has bit b = eqb b (digit 0) || eqb b (digit 1)
has a_tab b = eqb b tab
has a_feed b = eqb b feed

-- The number of a byte that has not its form. Request 01: "13 any wrong byte of the header line, below it 14 digit not 0 or 1, 15 tab
-- missing, 16 line feed missing".
abbrev pub lacking : Form → ℕ
lacking (exactly x) = 13
lacking bit = 14
lacking a_tab = 15
lacking a_feed = 16

-- The form of the line of names ..
abbrev pub header_form : List Form
header_form = map exactly rows_header

-- .. and of a column's line: "digit TAB digit LF".
abbrev pub column_form : List Form
column_form = bit ∷ a_tab ∷ bit ∷ a_feed ∷ []

-- A text begins with a whole line of the form; one that stops early does not.
unfoldable pub begins : List Form → (text : List ℕ) → Bool
begins [] text = true
begins (f ∷ fs) [] = false
begins (f ∷ fs) (b ∷ bs) = has f b && begins fs bs

-- "text not of the form above; the first bad line", taken line by line (what is told of a text goes by its places: specs/Fault). Of the
-- line that a text begins with: 0 where it has its form, else its number, with so many lines before it.
unfoldable pub fault : List Form → (before : ℕ) → (text : List ℕ) → ℕ
fault form before text = cond (begins form text) 0 (suc before)

-- The first fault, of a line or of what comes behind it.
abbrev pub or_else : (fault rest : ℕ) → ℕ
or_else zero rest = rest
or_else (suc n) rest = suc n

-- .. of column lines with so many lines before them. Nothing left is no line; a line cut short is one.
unfoldable pub first_bad : (before : ℕ) → (text : List ℕ) → ℕ
first_bad before [] = 0
first_bad before (a ∷ []) = fault column_form before (a ∷ [])
first_bad before (a ∷ b ∷ []) = fault column_form before (a ∷ b ∷ [])
first_bad before (a ∷ b ∷ c ∷ []) = fault column_form before (a ∷ b ∷ c ∷ [])
first_bad before (a ∷ b ∷ c ∷ d ∷ text) =
    or_else (fault column_form before (a ∷ b ∷ c ∷ d ∷ [])) (first_bad (before + 1) text)

-- .. and of a text: "a line, counted from 1": the header is line 1, also of an empty text; 0 where no line is bad.
unfoldable pub bad_line : (text : List ℕ) → ℕ
bad_line text = or_else (fault header_form 0 text) (first_bad 1 (drop (length rows_header) text))

-- The digits at a place of each column line, as bits: the row of that place.
unfoldable pub row_in : (place : ℕ) → (text : List ℕ) → List ℕ
row_in place [] = []
row_in place (a ∷ []) = []
row_in place (a ∷ b ∷ []) = []
row_in place (a ∷ b ∷ c ∷ []) = []
row_in place (a ∷ b ∷ c ∷ d ∷ text) = get_or (a ∷ b ∷ c ∷ d ∷ []) place 0 % 2 ∷ row_in place text

-- The CDM row of a text: the first digit of each column line ..
unfoldable pub cdm_of : (text : List ℕ) → List ℕ
cdm_of text = row_in 0 (drop (length rows_header) text)

-- .. and its CDS row: the digit behind the TAB.
unfoldable pub cds_of : (text : List ℕ) → List ℕ
cds_of text = row_in 2 (drop (length rows_header) text)

-- "decimal": the digits of n, with fuel for as many.
unfoldable pub digits_in : (fuel n : ℕ) → List ℕ
digits_in zero n = []
digits_in (suc fuel) n = cond (ltb n 10) (digit n ∷ []) (digits_in fuel (n / 10) ++ digit (n % 10) ∷ [])

-- .. which n + 1 always is.
unfoldable pub decimal : ℕ → List ℕ
decimal n = digits_in (suc n) n

-- A header's names, each behind its TAB, and LF ..
abbrev pub headings : List Field → List ℕ
headings [] = feed ∷ []
headings (f ∷ fs) = tab ∷ bytes (heading f) ++ headings fs

-- .. "header `event` TAB `column` TAB `id` TAB `address` TAB `value`"; Request 02: "gains a field `start` there"; Request
-- 05: "gain `bank` after the address".
abbrev pub list_header : List ℕ
list_header = bytes (heading Field.kind) ++ headings numbers

-- A field behind its TAB: "decimal", "`-` for a field the kind doesn't name".
unfoldable pub field : (named : Bool) → ℕ → List ℕ
field true n = tab ∷ decimal n
field false n = tab ∷ bytes "-"

-- An entry's fields, and LF ..
unfoldable pub cells : Banked → List Field → List ℕ
cells e [] = feed ∷ []
cells e (f ∷ fs) = field (named e f) (value_of e f) ++ cells e fs

-- .. behind "the kind by name".
unfoldable pub entry_line : Banked → List ℕ
entry_line e = (table e.entry.event.kind).name ++ cells e numbers

-- "one entry a line".
unfoldable pub entry_lines : List Banked → List ℕ
entry_lines [] = []
entry_lines (e ∷ es) = entry_line e ++ entry_lines es

-- "A list is printed as header .. then one entry a line".
unfoldable pub list_text : List Banked → List ℕ
list_text es = list_header ++ entry_lines es
