-- How carry's calls end: what lets rows and texts through, and the ends of text to rows. Assumes nothing.
use mathlib.Core.Path.{◌≡◌, refl, sym, ap, ◌∙◌}
use mathlib.Core.List.{List, map}
use mathlib.Core.Option.{Option, none, some, or_else, none-ne-some}
use Prim.Native.Nat.{ℕ, ◌+◌, ◌-◌, ◌*◌, ◌/◌, ◌≤◌, ◌<◌}
use native.Mathlib.Omega.{arith}
use borrow.Author.Tests.{lt-ltb, le-ltb, ltb-false}
use lib.ListN.{length, length-drop, take, drop}
use lib.Seq.{sets}
use Rattle.std.proofs.lemmas.Bool.{or_parts}
use Rattle.protocol.specs.Limits.{column_limit}
use Rattle.protocol.specs.Text.{cdm_of, cds_of}
use Rattle.protocol.specs.Fault.{stop, Fault, fault_at, text_fault}
use Rattle.std.specs.Prelude.{Ok, Err}
use Rattle.std.specs.Simd.{first_chunks}
use Rattle.job.specs.Refusals.{alone, refusal, first, number, refusal_of}
use Rattle.job.specs.Rows.{row_rules, wrong_rows}
use Rattle.job.specs.declared.Reason.{Reason}
use Rattle.job.specs.declared.Refusal as Returned
use Rattle.job.specs.declared.Detail.TheVariants.{Alone}
use Rattle.job.proofs.Refusals.{no, stays, passes, none_before, laid, ended_refused, ended_made}
use Rattle.job.proofs.Rows.{Right, right_rows}
use Rattle.cursor.proofs.Lines.{left}
use Rattle.rows_text.specs.RowsText.{rows_refusals, bad_form, text_room, bit_at, text_refusals, RowsTaken}
use Rattle.rows_text.proofs.Columns.{text_length, row_length, row_of_lines}

-- The refusals of rows to text in the words of its branches.
module _ (cdm cds : List ℕ) (room : ℕ) where
  pub rows_wrong : (reason : Reason) → some (refusal (number reason) alone) ≡ first (wrong_rows cdm cds)
      → some (refusal (number reason) alone) ≡ first (rows_refusals cdm cds room)
  unfolding rows_refusals
  rows_wrong reason e = stays (wrong_rows cdm cds) _ reason e

  module _ (e : none ≡ first (wrong_rows cdm cds)) where
    pub rows_nine : room < 8 + 4 * length cdm → some (refusal 9 alone) ≡ first (rows_refusals cdm cds room)
    unfolding rows_refusals first
    rows_nine h = sym (passes (wrong_rows cdm cds) _ (sym e) ∙ rw (text_length cdm cds (right_rows cdm cds (sym e)).same, lt-ltb _ _ h))

    pub rows_none : 8 + 4 * length cdm ≤ room → none ≡ first (rows_refusals cdm cds room)
    unfolding rows_refusals first
    rows_none h = sym (passes (wrong_rows cdm cds) _ (sym e) ∙ rw (text_length cdm cds (right_rows cdm cds (sym e)).same, le-ltb _ _ h))

  -- Where none holds, rows are right and their text has room.
  pub rows_pass : none ≡ first (rows_refusals cdm cds room) → Right cdm cds × (8 + 4 * length cdm ≤ room)
  unfolding rows_refusals wrong_rows row_rules
  rows_pass e =
      let right = right_rows cdm cds (none_before (wrong_rows cdm cds) _ (sym e)) in
      (right, omega (arith, ltb-false _ _ (no 9 _ (sym e)), text_length cdm cds right.same))

-- So many columns that are refused by neither 5 nor 9, and back.
pub room_enough : (n cdm cds : ℕ) → first (text_room n cdm cds) ≡ none → (n ≤ cdm) × (n ≤ cds)
unfolding text_room
room_enough n cdm cds e = let rows = or_parts _ _ (no 9 _ e) in (ltb-false _ _ rows.0, ltb-false _ _ rows.1)

pub room_given : (n cdm cds : ℕ) → n ≤ column_limit → n ≤ cdm → n ≤ cds → first (text_room n cdm cds) ≡ none
unfolding text_room first
room_given n cdm cds short fits fits' = rw (le-ltb column_limit n short, le-ltb cdm n fits, le-ltb cds n fits')

-- The columns of a text, by its length, in either row.
pub columns_in : (text : List ℕ) → (length (cdm_of text) ≡ (length text - 8) / 4) × (length (cds_of text) ≡ (length text - 8) / 4)
unfolding cdm_of cds_of
columns_in text = (
  row_length 0 (drop 8 text) ∙ ap (λ (n : ℕ). n / 4) (length-drop 8 text),
  row_length 2 (drop 8 text) ∙ ap (λ (n : ℕ). n / 4) (length-drop 8 text),
)

-- No fault is told exactly where there is none.
pub form_good : (fault : Option Fault) → bad_form fault ≡ none → fault ≡ none
form_good none e = refl
form_good (some f) e = absurd (none-ne-some _ (sym e))

-- What a search from the text's stop finds is what is wrong with the text.
pub fault_there : (text : List ℕ) (at : ℕ) → at ≡ stop 0 text → fault_at at (length text) ≡ text_fault text
unfolding text_fault
fault_there text at e = rw e

-- The lines behind a text's header are its columns, and their digits its rows.
pub lines_of_text : (text : List ℕ) (lines : List (List ℕ))
    → lines ≡ first_chunks 4 (length (take (length text - 8) (drop 8 text)) / 4) (take (length text - 8) (drop 8 text))
    → (map (bit_at 0) lines ≡ cdm_of text) × (map (bit_at 2) lines ≡ cds_of text)
unfolding cdm_of cds_of
lines_of_text text lines e =
    let behind = rw (left text 8) at e in
    (rw behind (row_of_lines 0 _ (drop 8 text) refl), rw behind (row_of_lines 2 _ (drop 8 text) refl))

-- The ends of text to rows: 13 to 17 with line and byte, 5 or 9, and columns.
module _ (text cdm cds : List ℕ) where
  pub taken_bad : (r : Returned.Refusal) → some (refusal_of r) ≡ bad_form (text_fault text) → RowsTaken text cdm cds (Err r) cdm cds
  unfolding text_refusals first or_else
  taken_bad r e = record { ends = ended_refused _ _ _ r (rw (← e)) }

  module _ (good : text_fault text ≡ none) (columns : ℕ) (all : columns ≡ length (cdm_of text)) where
    in_room : first (text_refusals text (length cdm) (length cds)) ≡ first (text_room columns (length cdm) (length cds))
    unfolding text_refusals first or_else
    in_room = rw (good, all)

    pub taken_refused : (reason : Reason) → some (refusal (number reason) alone) ≡ first (text_room columns (length cdm) (length cds))
        → RowsTaken text cdm cds (Err (record { reason = reason; beside = Alone })) cdm cds
    taken_refused reason e = record { ends = ended_refused _ _ _ (record { reason = reason; beside = Alone }) (in_room ∙ sym e) }

    pub taken_columns : none ≡ first (text_room columns (length cdm) (length cds)) → (cdm_after cds_after : List ℕ)
        → cdm_after ≡ sets cdm 0 (cdm_of text) → cds_after ≡ sets cds 0 (cds_of text)
        → RowsTaken text cdm cds (Ok columns) cdm_after cds_after
    taken_columns e cdm_after cds_after put_cdm put_cds =
        let long = columns_in text in
        let rows = room_enough _ _ _ (sym e) in
        let in_cdm = put_cdm ∙ laid (cdm_of text) cdm (omega arith) in
        let in_cds = put_cds ∙ laid (cds_of text) cds (omega arith) in
        record { ends = ended_made _ _ _ _ _ (in_room ∙ sym e) all (cc (in_cdm, in_cds)) }
