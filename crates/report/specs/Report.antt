-- What the indexing program prints for a text of two rows and an opening column. The texts themselves are protocol's (specs/Text).
use Rattle.std.specs.Prelude.{List, [], ◌∷◌, ◌++◌, ℕ, ◌*◌, ltb, length, Result}
use Rattle.std.proofs.Math.Option.{Option, none, some, get_or}
use Rattle.protocol.specs.Limits.{column_limit}
use Rattle.protocol.specs.Entries.{bytes}
use Rattle.protocol.specs.Banks.{Banked}
use Rattle.protocol.specs.Layout.{current, list_bytes}
use Rattle.protocol.specs.Text.{tab, feed, decimal, cdm_of, cds_of, list_text}
use Rattle.protocol.specs.Fault.{Fault, text_fault}
use Rattle.job.specs.Refusals.{Detail, alone, on_line, of_job, Refusal, refusal, Rule, when, found, first, lent, Ended}
use Rattle.job.specs.declared.Refusal as Returned
use Rattle.print.specs.Printed.{Printed}
use Rattle.read.specs.Read.{list_of}
use Rattle.rows_text.specs.RowsText.{bad_form}

-- Room for any report.
abbrev pub report_room : ℕ
report_room = 37 * column_limit

-- Numbers in decimal, each behind its TAB.
unfoldable pub fields : (numbers : List ℕ) → List ℕ
fields [] = []
fields (n ∷ ns) = tab ∷ decimal n ++ fields ns

-- What is told beside a refusal's number, as numbers.
abbrev pub values : Detail → List ℕ
values alone = []
values (on_line line byte) = line ∷ byte ∷ []
values (of_job job) = job ∷ []

-- "On a refusal it prints only `refused` TAB number .. LF", and behind the number whatever is told beside it.
unfoldable pub refused_text : Refusal → List ℕ
refused_text (refusal number beside) = bytes "refused" ++ fields (number ∷ values beside) ++ feed ∷ []

-- That line, or where nothing is refused the list of what two rows show, as text.
unfoldable pub printed : Option Refusal → (cdm cds : List ℕ) → (opening : ℕ) → List ℕ
printed none cdm cds opening = list_text (list_of opening cdm cds)
printed (some r) cdm cds opening = refused_text r

-- "Text to rows: 11, 5", with 13 to 17 in 11's place, then "Read": the rows of a text are of one length and hold bits, and there is room for
-- any list, so of the reader's own refusals only 8 is left.
unfoldable pub report_refusals : (text : List ℕ) → (opening : ℕ) → List Rule
report_refusals text opening =
    found 13 (bad_form (text_fault text))
    ∷ when (ltb column_limit (length (cdm_of text))) 5
    ∷ when (ltb (length (cdm_of text)) opening) 8
    ∷ []

-- What is printed for a text.
unfoldable pub report_text : (text : List ℕ) → (opening : ℕ) → List ℕ
report_text text opening = printed (first (report_refusals text opening)) (cdm_of text) (cds_of text) opening

-- The same of two rows of one length that hold bits, for the proofs: no contract cites it.
unfoldable pub rows_report : (cdm cds : List ℕ) → (opening : ℕ) → List ℕ
rows_report cdm cds opening = printed (first (when (ltb (length cdm) opening) 8 ∷ [])) cdm cds opening

-- The same of a text that has more columns than a row may have, by its fault, or 5 for none.
unfoldable pub long_report : Option Fault → List ℕ
long_report fault = refused_text (get_or (bad_form fault) (refusal 5 alone))

-- What listed promises: the entries that a text's rows show and their list, or the refusal.
abbrev pub Shown : (text : List ℕ) → (opening : ℕ) → (out : List ℕ) → Result ℕ Returned.Refusal → (after : List ℕ) → Type 0
Shown text opening out outcome after =
    let list : List Banked = list_of opening (cdm_of text) (cds_of text) in
    Ended (report_refusals text opening) (length list) (lent (list_bytes current list) out ∷ []) outcome (after ∷ [])

-- A text printed whole, or refused by 9: "the result needs more room than was lent, and only then".
abbrev pub Whole : (text out : List ℕ) → Result ℕ Returned.Refusal → (after : List ℕ) → Type 0
Whole text out outcome after = Printed (when (ltb (length out) (length text)) 9 ∷ []) text out outcome after

-- What report promises.
abbrev pub Reported : (text : List ℕ) → (opening : ℕ) → (out : List ℕ) → Result ℕ Returned.Refusal → (after : List ℕ) → Type 0
Reported text opening out outcome after = Whole (report_text text opening) out outcome after
