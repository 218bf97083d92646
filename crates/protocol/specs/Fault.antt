-- What is wrong with a text of rows. Request 01: "Number 11 is to become finer, with the place in the line as well, counted in bytes from
-- 0." What each byte has to be goes by its place in the text; number, line and byte are told of the place where a text leaves its form.
use Rattle.std.specs.Prelude.{cond, List, [], ◌∷◌, ℕ, zero, suc, ◌+◌, ◌-◌, ◌*◌, ◌/◌, ◌%◌, ltb, eqb, length, get_or}
use Rattle.std.proofs.Math.Option.{Option, none, some}
use Rattle.protocol.specs.Text.{rows_header, Form, bit, has, lacking, header_form, column_form}

-- "header `cdm` TAB `cds` LF": its bytes ..
abbrev pub header_length : ℕ
header_length = length rows_header

-- .. and those of "digit TAB digit LF".
abbrev pub line_length : ℕ
line_length = length column_form

-- The line that a place of the text is in, "counted from 1": the header is line 1 ..
abbrev pub line_at : (place : ℕ) → ℕ
line_at p = cond (ltb p header_length) 1 (2 + (p - header_length) / line_length)

-- .. and its byte in that line, "counted in bytes from 0".
abbrev pub byte_at : (place : ℕ) → ℕ
byte_at p = cond (ltb p header_length) p ((p - header_length) % line_length)

-- .. and back: the place of a byte of a line.
abbrev pub place_of : (line byte : ℕ) → ℕ
place_of line byte = cond (eqb line 1) byte (header_length + line_length * (line - 2) + byte)

-- What the byte at a place has to be: "header `cdm` TAB `cds` LF, then digit TAB digit LF for each column".
abbrev pub form_at : (place : ℕ) → Form
form_at p = get_or (cond (ltb p header_length) header_form column_form) (byte_at p) bit

-- The place of the first byte that has not its form, or the end; the text begins at place p.
unfoldable pub stop : (p : ℕ) → (text : List ℕ) → ℕ
stop p [] = p
stop p (b ∷ text) = cond (has (form_at p) b) (stop (p + 1) text) p

-- What is told of a text that is wrong: the number of its refusal, its line, and its byte in that line.
pub record Fault : Type 0 where
  pub number : ℕ
  pub line : ℕ
  pub byte : ℕ

-- "17 text ends inside any line; an empty text is 13": the number of a text that ends at a place, 0 behind a whole line, of which the
-- header is one.
abbrev pub end_number : (place : ℕ) → ℕ
end_number p = cond (eqb p 0) 13 (cond (eqb (byte_at p) 0) 0 17)

-- "at one place 17 goes first": the number of a text that stops at a place and has this end, 0 where nothing is wrong.
abbrev pub fault_number : (at end : ℕ) → ℕ
fault_number p end = cond (eqb p end) (end_number p) (lacking (form_at p))

-- What is told of a place by a number, nothing where it is 0.
abbrev pub fault_by : (number place : ℕ) → Option Fault
fault_by zero p = none
fault_by (suc n) p = some (record { number = suc n; line = line_at p; byte = byte_at p })

-- "The first bad byte decides; text that stops early names the place just past its end": what is told is told of the stop.
unfoldable pub fault_at : (at end : ℕ) → Option Fault
fault_at p end = fault_by (fault_number p end) p

-- What is wrong with a text, or nothing.
unfoldable pub text_fault : (text : List ℕ) → Option Fault
text_fault text = fault_at (stop 0 text) (length text)

-- The line that is told, 0 for none.
abbrev pub fault_line : Option Fault → ℕ
fault_line none = 0
fault_line (some f) = f.line
