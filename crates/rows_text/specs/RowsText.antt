-- Rows and text: when the two calls refuse, and what they make. The texts themselves are protocol's (specs/Text).
use Rattle.std.specs.Prelude.{◌||◌, List, [], ◌∷◌, ◌++◌, ℕ, ◌%◌, ltb, length, get_or, Result, Ok, Err}
use Rattle.std.proofs.Math.Option.{Option, none, some}
use Rattle.protocol.specs.Limits.{column_limit}
use Rattle.protocol.specs.Text.{rows_text, cdm_of, cds_of}
use Rattle.protocol.specs.Fault.{Fault, text_fault}
use Rattle.job.specs.Refusals.{on_line, Refusal, refusal, refusal_of, Rule, when, found, lent, Ended}
use Rattle.job.specs.Rows.{wrong_rows}
use Rattle.job.specs.declared.Refusal as Returned
use Rattle.print.specs.Printed.{Printed}

-- "Rows to text: 5, 6, 7, 9." 5 to 7 are those of any rows (job's specs/Rows); 9: "the result needs more room than was lent, and only
-- then".
unfoldable pub rows_refusals : (cdm cds : List ℕ) → (room : ℕ) → List Rule
rows_refusals cdm cds room = wrong_rows cdm cds ++ when (ltb room (length (rows_text cdm cds))) 9 ∷ []

-- What rows to text promises.
abbrev pub RowsPrinted : (cdm cds out : List ℕ) → Result ℕ Returned.Refusal → (after : List ℕ) → Type 0
RowsPrinted cdm cds out outcome after = Printed (rows_refusals cdm cds (length out)) (rows_text cdm cds) out outcome after

-- Refusals 13 to 17: what protocol's text_fault tells, the line and the byte beside the number.
abbrev pub bad_form : Option Fault → Option Refusal
bad_form none = none
bad_form (some f) = some (refusal f.number (on_line f.line f.byte))

-- What the code hands on where it refuses with what is told beside the number, and where it does not.
abbrev pub handed : {A : Type 0} → Result A Returned.Refusal → Option Refusal
handed (Ok a) = none
handed (Err r) = some (refusal_of r)

-- Refusals 5, and 9 where so many columns need more room than either row has.
unfoldable pub text_room : (columns cdm_room cds_room : ℕ) → List Rule
text_room columns cdm_room cds_room =
    when (ltb column_limit columns) 5 ∷ when (ltb cdm_room columns || ltb cds_room columns) 9 ∷ []

-- "Text to rows: 11, 5, 9", and in request 01: "The first stands in 11's place in the order".
unfoldable pub text_refusals : (text : List ℕ) → (cdm_room cds_room : ℕ) → List Rule
text_refusals text cdm_room cds_room =
    found 13 (bad_form (text_fault text)) ∷ text_room (length (cdm_of text)) cdm_room cds_room

-- "digit TAB digit LF": the digit at a place of a column's line, as a bit.
abbrev pub bit_at : (place : ℕ) → (line : List ℕ) → ℕ
bit_at place line = get_or line place 0 % 2

-- What text to rows returns, in columns, and what it leaves in the lent rows.
pub record RowsTaken (text cdm cds : List ℕ) (outcome : Result ℕ Returned.Refusal) (cdm_after cds_after : List ℕ) : Type 0 where
  pub ends :
      Ended (text_refusals text (length cdm) (length cds)) (length (cdm_of text)) (lent (cdm_of text) cdm ∷ lent (cds_of text) cds ∷ []) outcome
      (cdm_after ∷ cds_after ∷ [])
