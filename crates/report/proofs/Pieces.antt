-- A text that is longer than any admitted one and comes in pieces: its report hangs on its fault alone, and that is found piece by piece,
-- wherever they begin. Assumes nothing.
use mathlib.Core.Path.{◌≡◌, sym, ap, ◌∙◌}
use mathlib.Core.List.{List, [], ◌++◌, append-nil}
use Prim.Native.Nat.{ℕ, ◌+◌, ◌≤◌, ◌<◌}
use native.Mathlib.Nat.{zero-add}
use native.Mathlib.Omega.{arith}
use borrow.Author.Tests.{ltb-true, ltb-false}
use lib.Dec.{ltb}
use lib.ListN.{length, length-append}
use Rattle.protocol.specs.Limits.{column_limit}
use Rattle.protocol.specs.Text.{cdm_of}
use Rattle.protocol.specs.Fault.{stop, fault_at, text_fault}
use Rattle.laws.proofs.Every.{tested, looked_up}
use Rattle.protocol.proofs.Stop.{stop_pieces, stop_first}
use Rattle.protocol.proofs.Fault.{fault_inside}
use Rattle.rows_text.proofs.Ends.{columns_in}
use Rattle.report.specs.Report.{report_text, long_report}
use Rattle.report.proofs.Rows.{reports_bad, reports_long}

-- The report on a text with more columns than a row may have.
pub by_fault : (text : List ℕ) (k : ℕ) → column_limit < length (cdm_of text) → report_text text k ≡ long_report (text_fault text)
unfolding long_report
by_fault text k h =
    looked_up (text_fault text) (λ e. reports_long text k e h ∙ sym (rw e)) (λ f e. reports_bad text k f e ∙ sym (rw e))

-- Of what keeps its form and a piece behind it:
module _ (before piece : List ℕ) (good : stop 0 before ≡ length before) where
  abbrev here : ℕ
  here = length before

  abbrev end : ℕ
  end = here + length piece

  on : (rest : List ℕ) → stop 0 (before ++ rest) ≡ stop here rest
  on rest = stop_pieces rest 0 before (good ∙ sym (zero-add here)) ∙ ap (λ (p : ℕ). stop p rest) (zero-add here)

  -- all keeps its form where the piece does;
  pub piece_good : stop here piece ≡ end → stop 0 (before ++ piece) ≡ length (before ++ piece)
  piece_good e = on piece ∙ (e ∙ sym (length-append before piece))

  -- and where they have more columns than a row may have, the piece decides if it is the last, or stops before its end.
  module _ (k : ℕ) (long : column_limit < length (cdm_of (before ++ piece))) where
    pub piece_last : report_text (before ++ piece) k ≡ long_report (fault_at (stop here piece) end)
    unfolding text_fault
    piece_last = by_fault (before ++ piece) k long ∙ ap long_report (rw (on piece, length-append))

    pub piece_bad : (rest : List ℕ) → stop here piece < end → report_text (before ++ (piece ++ rest)) k ≡ long_report (fault_at (stop here piece) end)
    unfolding text_fault
    piece_bad rest h =
        let text = before ++ (piece ++ rest) in
        let parts : length text ≡ end + length rest = omega (arith, length-append before (piece ++ rest), length-append piece rest) in
        let longer : column_limit < length (cdm_of text)
        = omega (arith, (columns_in text).0, (columns_in (before ++ piece)).0, length-append before piece) in
        let stopped : stop 0 text ≡ stop here piece = on (piece ++ rest) ∙ stop_first rest here piece h in
        let inside : stop here piece < length text = omega arith in
        by_fault text k longer ∙ ap long_report (rw stopped (fault_inside _ _ _ inside h))

  -- So where they have more bytes than any admitted text, and a piece that keeps its form to its end is the last one:
  module _ (k : ℕ) (long : 16396 ≤ end) where
    longer : column_limit < length (cdm_of (before ++ piece))
    longer = omega (arith, (columns_in (before ++ piece)).0, length-append before piece)

    pub piece_ends : (rest : List ℕ) → (end ≤ stop here piece → rest ≡ [])
        → long_report (fault_at (stop here piece) end) ≡ report_text (before ++ (piece ++ rest)) k
    piece_ends rest last =
        tested (ltb (stop here piece) end) (λ q. sym (piece_bad k longer rest (ltb-true (stop here piece) end q)))
        (λ q.
        let none : rest ≡ [] = last (ltb-false (stop here piece) end q) in
        rw (none, append-nil) (sym (piece_last k longer)))
