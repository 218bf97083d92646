-- What the indexing program makes of two recorded rows, and of any opening column. Assumes nothing.
use mathlib.Core.Path.{◌≡◌, sym, ◌∙◌}
use mathlib.Core.List.{List}
use mathlib.Core.Option.{none}
use Prim.Native.Nat.{ℕ, ◌+◌, ◌≤◌, ◌<◌, min}
use native.Mathlib.Nat.{min-eq_left, min-eq_right}
use native.Mathlib.Omega.{arith}
use borrow.Author.Tests.{ltb-true, ltb-false}
use lib.Dec.{ltb}
use lib.ListN.{length}
use Rattle.protocol.specs.Limits.{column_limit}
use Rattle.protocol.specs.Text.{rows_text, cdm_of, cds_of, list_text}
use Rattle.protocol.specs.Fault.{text_fault}
use Rattle.laws.proofs.Every.{tested, looked_up}
use Rattle.protocol.proofs.Text.{Back, there_and_back}
use Rattle.protocol.proofs.Fault.{nothing_told}
use Rattle.job.specs.Refusals.{alone, refusal, first}
use Rattle.job.specs.Rows.{wrong_rows}
use Rattle.job.proofs.Bits.{all_bits}
use Rattle.job.proofs.Rows.{Right, right_rows}
use Rattle.read.specs.Read.{list_of}
use Rattle.report.specs.Report.{refused_text, report_text}
use Rattle.report.proofs.Rows.{reports_late, reports_shown, reports_bad, reports_long, reports_rows}

-- Given two right rows as text, the program prints the list that they show, from any of their columns on.
pub rows_reported : (cdm cds : List ℕ) (k : ℕ) → first (wrong_rows cdm cds) ≡ none → k ≤ length cdm
    → report_text (rows_text cdm cds) k ≡ list_text (list_of k cdm cds)
rows_reported cdm cds k e h =
    let right : Right cdm cds = right_rows cdm cds e in
    let back : Back cdm cds (rows_text cdm cds)
    = there_and_back cdm cds right.same (all_bits cdm right.cdm_bits) (all_bits cds right.cds_bits) in
    reports_rows (rows_text cdm cds) k (nothing_told _ back.good) (rw back.cdm_back right.short)
    ∙ rw (back.cdm_back, back.cds_back) (reports_shown cdm cds k h)

-- Two opening columns past the longest row have the same report, whatever the text is ..
late_alike : (text : List ℕ) (j k : ℕ) → column_limit < j → column_limit < k → report_text text j ≡ report_text text k
late_alike text j k p q =
    looked_up (text_fault text)
    (λ good.
    tested (ltb column_limit (length (cdm_of text)))
    (λ over. let long = ltb-true _ _ over in reports_long text j good long ∙ sym (reports_long text k good long))
    (λ under.
    let short : length (cdm_of text) ≤ column_limit = ltb-false _ _ under in
    let late : (i : ℕ) → column_limit < i → report_text text i ≡ refused_text (refusal 8 alone)
    = λ i h. reports_rows text i good short ∙ reports_late (cdm_of text) (cds_of text) i (omega arith) in
    late j p ∙ sym (late k q)))
    (λ f bad. reports_bad text j f bad ∙ sym (reports_bad text k f bad))

-- .. so the first of them stands for all: argument's `farthest`, at which it caps the number on the command line, changes no report.
pub capped_report : (text : List ℕ) (k : ℕ) → report_text text (min k (column_limit + 1)) ≡ report_text text k
capped_report text k =
    tested (ltb column_limit k)
    (λ q. let past : column_limit + 1 ≤ k = omega (arith, ltb-true column_limit k q) in
    rw (min-eq_right past) (late_alike text (column_limit + 1) k (omega arith) (omega arith)))
    (λ q. let near : k ≤ column_limit + 1 = omega (arith, ltb-false column_limit k q) in rw (min-eq_left near))
