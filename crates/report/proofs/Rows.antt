-- What the jobs say that the report calls, in rooms that any result fits. Assumes nothing.
use mathlib.Core.Path.{◌≡◌, refl, sym, ap, ◌∙◌}
use mathlib.Core.Bool.{true}
use mathlib.Core.List.{List, [], ◌∷◌, append_assoc}
use mathlib.Core.Option.{none, some, or_else}
use Rattle.std.specs.Prelude.{Result, Ok, Err}
use Prim.Native.Nat.{ℕ, ◌*◌, ◌%◌, ◌≤◌, ◌<◌}
use native.Mathlib.Omega.{arith}
use borrow.Author.Tests.{lt-ltb, le-ltb, ltb-false, le-leb}
use lib.Dec.{ltb}
use lib.ListN.{length, take, drop, get_or}
use Rattle.protocol.specs.Limits.{column_limit}
use Rattle.protocol.specs.Banks.{Banked}
use Rattle.protocol.specs.Layout.{current, entry_bytes, list_bytes, entries_in, is_list}
use Rattle.protocol.specs.Text.{row_in, cdm_of, cds_of, list_text}
use Rattle.protocol.specs.Fault.{Fault, text_fault}
use Rattle.laws.proofs.Every.{tested}
use Rattle.protocol.proofs.Codec.{length_list, entries_back, bytes_list}
use Rattle.job.specs.Bytes.{none_above, are_bits}
use Rattle.job.specs.Refusals.{alone, on_line, refusal, Rule, when, found, first, refusal_of, lent, lent_after}
use Rattle.job.specs.Rows.{wrong_rows}
use Rattle.job.specs.declared.Refusal as Returned
use Rattle.job.proofs.Refusals.{no, keeps, passes, same_rules, was_made, was_refused, result_fits, result_first}
use Rattle.job.proofs.Rows.{not_wrong}
use Rattle.read.specs.Read.{list_of, rows_refusals, refusals, Listed}
use Rattle.read.proofs.Left.{length_listed}
use Rattle.list_text.specs.Lists.{list_refusals, ListPrinted}
use Rattle.rows_text.specs.RowsText.{bad_form, text_room, text_refusals, RowsTaken}
use Rattle.rows_text.proofs.Ends.{columns_in, form_good}
use Rattle.report.specs.Report.{refused_text, printed, report_refusals, report_text, rows_report, Shown, Reported}

-- What is printed in each case.
module _ (cdm cds : List ℕ) (k : ℕ) where
  pub reports_late : length cdm < k → rows_report cdm cds k ≡ refused_text (refusal 8 alone)
  unfolding rows_report printed first
  reports_late h = rw (lt-ltb (length cdm) k h)

  pub reports_shown : k ≤ length cdm → rows_report cdm cds k ≡ list_text (list_of k cdm cds)
  unfolding rows_report printed first
  reports_shown h = rw (le-ltb (length cdm) k h)

module _ (text : List ℕ) (k : ℕ) where
  pub reports_bad : (f : Fault) → text_fault text ≡ some f → report_text text k ≡ refused_text (refusal f.number (on_line f.line f.byte))
  unfolding report_text report_refusals printed first or_else
  reports_bad f e = rw e

  module _ (good : text_fault text ≡ none) where
    pub reports_long : column_limit < length (cdm_of text) → report_text text k ≡ refused_text (refusal 5 alone)
    unfolding report_text report_refusals printed first or_else
    reports_long h = rw (good, lt-ltb column_limit (length (cdm_of text)) h)

    pub reports_rows : length (cdm_of text) ≤ column_limit → report_text text k ≡ rows_report (cdm_of text) (cds_of text) k
    unfolding report_text report_refusals rows_report first or_else
    reports_rows h = rw (good, le-ltb column_limit (length (cdm_of text)) h)

-- Rows that a text was taken into.
pub record Rows (text cdm cds : List ℕ) (n : ℕ) : Type 0 where
  pub good : text_fault text ≡ none
  pub short : length (cdm_of text) ≤ column_limit
  pub in_cdm : n ≤ length cdm
  pub in_cds : n ≤ length cds
  pub cdm_row : take n cdm ≡ cdm_of text
  pub cds_row : take n cds ≡ cds_of text

-- What text to rows returns where each lent row holds any row: columns, or a refusal of the report.
abbrev pub Says : (text cdm cds : List ℕ) → Result ℕ Returned.Refusal → Type 0
Says text cdm cds (Ok n) = Rows text cdm cds n
Says text cdm cds (Err r) = (k : ℕ) → first (report_refusals text k) ≡ some (refusal_of r)

module _ (text cdm cds : List ℕ) (cdm_room : column_limit ≡ length cdm) (cds_room : column_limit ≡ length cds) where
  -- There is room for every row that 5 lets through.
  abbrev form : List Rule
  form = found 13 (bad_form (text_fault text)) ∷ when (ltb column_limit (length (cdm_of text))) 5 ∷ []

  by_form : first (text_refusals text (length cdm) (length cds)) ≡ first form
  unfolding text_refusals text_room first or_else
  by_form =
      rw (← cdm_room, ← cds_room) (tested (ltb column_limit (length (cdm_of text))) (λ over. rw over) (λ under. rw under))

  pub says : (outcome : Result ℕ Returned.Refusal) {m s : List ℕ} → RowsTaken text cdm cds outcome m s → Says text m s outcome
  unfolding report_refusals
  says (Ok n) {m} {s} t =
      let done = was_made t.ends in
      let none_given : first form ≡ none = sym by_form ∙ done.0 in
      let both : length (cdm_of text) ≡ length (cds_of text) = (columns_in text).0 ∙ sym (columns_in text).1 in
      let in_m : m ≡ lent_after none (lent (cdm_of text) cdm) = cc in
      let in_s : s ≡ lent_after none (lent (cds_of text) cds) = cc in
      record {
        good = form_good (text_fault text) (no 13 form none_given);
        short = ltb-false _ _ (no 5 form none_given);
        in_cdm = rw (in_m, done.1) (result_fits (cdm_of text) cdm);
        in_cds = rw (in_s, done.1, both) (result_fits (cds_of text) cds);
        cdm_row = rw (in_m, done.1) (result_first (cdm_of text) cdm);
        cds_row = rw (in_s, done.1, both) (result_first (cds_of text) cds);
      }
  says (Err r) t = λ k. keeps form _ _ (sym by_form ∙ was_refused t.ends)

-- The rows of a text are never wrong in their bytes, and of one length.
row_bits : (place : ℕ) (text : List ℕ) → are_bits (row_in place text) ≡ true
unfolding are_bits none_above row_in
row_bits place [] = refl
row_bits place (a ∷ []) = refl
row_bits place (a ∷ b ∷ []) = refl
row_bits place (a ∷ b ∷ c ∷ []) = refl
row_bits place (a ∷ b ∷ c ∷ d ∷ text) =
    rw (le-leb (get_or (a ∷ b ∷ c ∷ d ∷ []) place 0 % 2) 1 (omega arith), row_bits place text)

text_right : (text : List ℕ) → length (cdm_of text) ≤ column_limit → first (wrong_rows (cdm_of text) (cds_of text)) ≡ none
unfolding cdm_of cds_of
text_right text short =
    let long = columns_in text in
    not_wrong (cdm_of text) (cds_of text)
    (record {
      short = short;
      same = long.0 ∙ sym long.1;
      cdm_bits = row_bits 0 (drop 8 text);
      cds_bits = row_bits 2 (drop 8 text);
    })

-- What read returns for them where the lent list holds any list: only the opening column can be refused.
module _ {text cdm cds : List ℕ} {n : ℕ} (rows : Rows text cdm cds n) (k : ℕ) (out : List ℕ) (room : entry_bytes current * column_limit ≡ length out) where
  abbrev m : List ℕ
  m = cdm_of text

  abbrev s : List ℕ
  s = cds_of text

  by_opening : first (refusals m s k (length out)) ≡ first (report_refusals text k)
  unfolding refusals rows_refusals report_refusals first or_else
  by_opening =
      let right = text_right text rows.short in
      let short : length (list_bytes current (list_of k m s)) ≤ length out =
      omega (arith, rows.short, length_list current (list_of k m s), length_listed k m s) in
      rw (append_assoc (wrong_rows m s))
      (passes (wrong_rows m s) _ right ∙ rw (le-ltb _ _ short, rows.good, le-ltb column_limit (length m) rows.short))

  pub shows : {outcome : Result ℕ Returned.Refusal} {after : List ℕ} → Listed (take n cdm) (take n cds) k out outcome after
      → Shown text k out outcome after
  shows listed = same_rules (rw (rows.cdm_row, rows.cds_row) at listed).ends by_opening

-- A list that was shown stands at the start of its buffer ..
module _ (text : List ℕ) (k : ℕ) where
  abbrev entries : List Banked
  entries = list_of k (cdm_of text) (cds_of text)

  module _ {n : ℕ} {out after : List ℕ} (shown : Shown text k out (Ok n) after) where
    there : after ≡ lent_after none (lent (list_bytes current entries) out)
    there = let done = was_made shown in cc

    long : entry_bytes current * n ≡ length (list_bytes current entries)
    long = omega (arith, length_list current entries, (was_made shown).1)

    pub shown_within : entry_bytes current * n ≤ length after
    shown_within = rw (there, long) (result_fits (list_bytes current entries) out)

    shown_first : take (entry_bytes current * n) after ≡ list_bytes current entries
    shown_first = rw (there, long) (result_first (list_bytes current entries) out)

    -- .. and is printed as text,
    pub shown_printed : {room end : List ℕ} {outcome : Result ℕ Returned.Refusal} → ListPrinted (take (entry_bytes current * n) after) room outcome end
        → Reported text k room outcome end
    unfolding report_text printed list_refusals first
    shown_printed p =
        let back = ap (entries_in current) shown_first ∙ entries_back current entries in
        rw ((was_made shown).0, ← back) (same_rules p (rw (ap (is_list current) shown_first ∙ bytes_list current entries)))

  -- or the line of the refusal is.
  pub refusal_printed : {r : Returned.Refusal} {out after : List ℕ} → Shown text k out (Err r) after
      → refused_text (refusal_of r) ≡ report_text text k
  unfolding report_text printed
  refusal_printed shown = rw (was_refused shown)
