-- Every report fits into the room that the indexing program has for it, so there none is refused by 9. Assumes nothing.
use mathlib.Core.Path.{◌≡◌}
use mathlib.Core.List.{List, [], ◌∷◌}
use mathlib.Core.Option.{Option, none, some}
use Rattle.std.specs.Prelude.{Result, Ok}
use Prim.Native.Nat.{ℕ, ◌*◌, ◌^◌, ◌≤◌, ◌<◌}
use native.Mathlib.Omega.{arith}
use borrow.Author.Tests.{le-ltb, ltb-true, ltb-false}
use lib.Dec.{ltb}
use lib.ListN.{length, length-append}
use Rattle.protocol.specs.Limits.{column_limit}
use Rattle.protocol.specs.Banks.{Banked}
use Rattle.protocol.specs.Text.{cdm_of, cds_of, entry_lines}
use Rattle.protocol.specs.Fault.{Fault, fault_at, text_fault}
use Rattle.laws.proofs.Every.{Every, IfAny, tested, looked_up}
use Rattle.protocol.proofs.Fault.{Low, fault_low, text_low}
use Rattle.job.specs.Refusals.{alone, on_line, refusal, first}
use Rattle.job.specs.declared.Refusal as Returned
use Rattle.job.proofs.Refusals.{ended_none}
use Rattle.read.specs.Read.{list_of}
use Rattle.read.proofs.Left.{length_listed}
use Rattle.read.proofs.Bytes.{Small, small_list}
use Rattle.list_text.proofs.Short.{line_limit, line_short}
use Rattle.list_text.proofs.Lists.{text_length}
use Rattle.report.specs.Report.{report_room, fields, refused_text, rows_report, report_text, long_report, Whole, Reported}
use Rattle.report.proofs.Lines.{twenty}
use Rattle.report.proofs.Rows.{reports_late, reports_shown, reports_bad, reports_long, reports_rows}

-- The lines of entries whose fields are bytes.
lines_short : (limit : ℕ) (es : List Banked) → limit ≤ column_limit → Every (Small limit) es
    → length (entry_lines es) ≤ line_limit * length es
unfolding entry_lines
lines_short limit [] l h = omega arith
lines_short limit (e ∷ es) l h =
    let small = h.0 in
    rw length-append
    (omega (
      arith,
      line_short e (omega arith) (omega arith) (omega arith) (omega arith) (omega arith) (omega arith),
      lines_short limit es l h.1,
    ))

-- The line of a refusal, whose numbers have at most twenty digits.
number_fits : (why : ℕ) → why < 2 ^ 64 → length (refused_text (refusal why alone)) ≤ report_room
unfolding refused_text fields
number_fits why h = simp length-append (omega (arith, twenty why h))

fault_fits : (f : Fault) {bytes : ℕ} → bytes < 2 ^ 64 → Low bytes f → length (refused_text (refusal f.number (on_line f.line f.byte))) ≤ report_room
unfolding refused_text fields
fault_fits f h low =
    simp length-append
    (omega (arith, twenty f.number (omega arith), twenty f.line (omega arith), twenty f.byte (omega arith)))

rows_fit : (cdm cds : List ℕ) (k : ℕ) → length cdm ≤ column_limit → length (rows_report cdm cds k) ≤ report_room
rows_fit cdm cds k h =
    tested (ltb (length cdm) k) (λ q. rw (reports_late cdm cds k (ltb-true (length cdm) k q)) (number_fits 8 (omega arith)))
    (λ q.
    let within : k ≤ length cdm = ltb-false (length cdm) k q in
    rw (reports_shown cdm cds k within)
    (omega (
      arith,
      text_length (list_of k cdm cds),
      lines_short (length cdm) (list_of k cdm cds) h (small_list k cdm cds within),
      length_listed k cdm cds,
    )))

-- The list, or a refusal; a text in memory has fewer than 2 ^ 63 bytes.
pub report_fits : (text : List ℕ) (k : ℕ) → length text < 2 ^ 63 → length (report_text text k) ≤ report_room
report_fits text k h =
    looked_up (text_fault text)
    (λ good.
    tested (ltb column_limit (length (cdm_of text)))
    (λ r. rw (reports_long text k good (ltb-true column_limit (length (cdm_of text)) r)) (number_fits 5 (omega arith)))
    (λ r.
    let short : length (cdm_of text) ≤ column_limit = ltb-false column_limit (length (cdm_of text)) r in
    rw (reports_rows text k good short) (rows_fit (cdm_of text) (cds_of text) k short)))
    (λ f bad. rw (reports_bad text k f bad) (fault_fits f {bytes = length text} (omega arith) (rw bad at (text_low text))))

-- The same of a text with more columns than a row may have, by its fault.
long_fits : (fault : Option Fault) {bytes : ℕ} → bytes < 2 ^ 64 → IfAny (Low bytes) fault → length (long_report fault) ≤ report_room
unfolding long_report
long_fits none h low = number_fits 5 (omega arith)
long_fits (some f) h low = fault_fits f h low

-- What fits is made.
module _ (out : List ℕ) (room : report_room ≤ length out) {outcome : Result ℕ Returned.Refusal} {after : List ℕ} where
  fits_made : (text : List ℕ) → length text ≤ report_room → Whole text out outcome after → outcome ≡ Ok (length text)
  unfolding first
  fits_made text h printed =
      let fits : length text ≤ length out = omega arith in ended_none printed (rw (le-ltb (length out) (length text) fits))

  pub report_made : (text : List ℕ) (k : ℕ) → length text < 2 ^ 63 → Reported text k out outcome after
      → outcome ≡ Ok (length (report_text text k))
  report_made text k h = fits_made (report_text text k) (report_fits text k h)

  pub long_made : (at end : ℕ) → at ≤ end → end < 2 ^ 64 → Whole (long_report (fault_at at end)) out outcome after
      → outcome ≡ Ok (length (long_report (fault_at at end)))
  long_made at end h k = fits_made (long_report (fault_at at end)) (long_fits (fault_at at end) k (fault_low at end h))
