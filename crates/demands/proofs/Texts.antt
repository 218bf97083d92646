-- Rows through text: what it says that columns were taken, or refused with a line, and that a printed text gives its rows back. Assumes
-- nothing.
use mathlib.Core.Path.{◌≡◌, refl, sym, ◌∙◌}
use mathlib.Core.List.{List, ◌∷◌}
use mathlib.Core.Bool.{◌||◌}
use mathlib.Core.Option.{Option, none, some, or_else}
use Prim.Native.Nat.{ℕ, ◌≤◌}
use lib.Dec.{ltb}
use lib.ListN.{length, take}
use Rattle.protocol.specs.Limits.{column_limit}
use Rattle.protocol.specs.Text.{bad_line, cdm_of, cds_of}
use Rattle.protocol.specs.Fault.{Fault, text_fault}
use Rattle.laws.proofs.Every.{tested}
use Rattle.protocol.proofs.Text.{Back, there_and_back}
use Rattle.protocol.proofs.Fault.{nothing_wrong, nothing_told}
use Rattle.job.specs.Refusals.{on_line, refusal, number, found, first, lent, lent_after}
use Rattle.std.specs.Prelude.{Result, Ok, Err}
use Rattle.job.specs.declared.Reason.{Reason}
use Rattle.job.specs.declared.Refusal.{Refusal}
use Rattle.job.specs.declared.Detail.TheVariants.{OnLine}
use Rattle.job.proofs.Bits.{all_bits}
use Rattle.job.proofs.Refusals.{no, none_before, result_first, was_made, was_refused, ended_none}
use Rattle.job.proofs.Rows.{Right, right_rows}
use Rattle.print.proofs.Ends.{was_printed}
use Rattle.rows_text.specs.RowsText.{rows_refusals, RowsPrinted, bad_form, text_room, text_refusals, RowsTaken}
use Rattle.rows_text.proofs.Ends.{room_given, columns_in, form_good}

-- Columns that were taken: the text has no bad line, and its rows stand at the start of the lent ones.
pub record Rows (text : List ℕ) (n : ℕ) (cdm cds : List ℕ) : Type 0 where
  pub good : bad_line text ≡ 0
  pub cdm_there : take n cdm ≡ cdm_of text
  pub cds_there : take n cds ≡ cds_of text

pub rows_taken : {text a b a' b' : List ℕ} {n : ℕ} → RowsTaken text a b (Ok n) a' b' → Rows text n a' b'
unfolding text_refusals
rows_taken {text} {a} {b} {a'} {b'} {n} rows =
    let done = was_made rows.ends in
    let both : length (cdm_of text) ≡ length (cds_of text) = (columns_in text).0 ∙ sym (columns_in text).1 in
    let in_cdm : a' ≡ lent_after none (lent (cdm_of text) a) = cc in
    let in_cds : b' ≡ lent_after none (lent (cds_of text) b) = cc in
    record {
      good = nothing_wrong text (form_good (text_fault text) (no 13 _ done.0));
      cdm_there = rw (done.1, in_cdm) (result_first (cdm_of text) a);
      cds_there = rw (done.1, both, in_cds) (result_first (cds_of text) b);
    }

-- A refusal with a line is what is told of the text: 5 and 9 have none.
pub was_told : {text a b a' b' : List ℕ} {reason : Reason} {line byte : ℕ}
    → RowsTaken text a b (Err (record { reason = reason; beside = OnLine line byte })) a' b'
    → text_fault text ≡ some (record { number = number reason; line = line; byte = byte })
unfolding text_refusals text_room first or_else
was_told {text} {a} {b} {reason} {line} {byte} taken = from (text_fault text) (was_refused taken.ends)
  where
    from : (f : Option Fault)
        → first (found 13 (bad_form f) ∷ text_room (length (cdm_of text)) (length a) (length b)) ≡ some (refusal (number reason) (on_line line byte))
        → f ≡ some (record { number = number reason; line = line; byte = byte })
    from none e =
        let columns = length (cdm_of text) in
        tested (ltb column_limit columns) (λ over. let five = rw over at e in cc)
        (λ under.
        tested (ltb (length a) columns || ltb (length b) columns)
        (λ short. let nine = rw (under, short) at e in cc)
        (λ fits. let made = rw (under, fits) at e in cc))
    from (some f) e =
        let told : f ≡ record { number = f.number; line = f.line; byte = f.byte } = refl in
        cc

-- Rows that were printed: their text gives them back, and with room for them it is not refused.
module _ (cdm cds : List ℕ) {out text : List ℕ} {n : ℕ} (printed : RowsPrinted cdm cds out (Ok n) text) where
  printed_right : Right cdm cds
  unfolding rows_refusals
  printed_right = right_rows cdm cds (none_before _ _ (was_printed printed).0)

  pub printed_back : Back cdm cds (take n text)
  printed_back =
      let right = printed_right in
      rw (was_printed printed).2
      (there_and_back cdm cds right.same (all_bits cdm right.cdm_bits) (all_bits cds right.cds_bits))

  pub printed_taken : {a b a' b' : List ℕ} {outcome : Result ℕ Refusal} → RowsTaken (take n text) a b outcome a' b'
      → length cdm ≤ length a → length cdm ≤ length b → outcome ≡ Ok (length cdm)
  unfolding text_refusals first or_else
  printed_taken {a} {b} rows room room' =
      let back = printed_back in
      let fits = room_given (length cdm) (length a) (length b) printed_right.short room room' in
      rw back.cdm_back at (ended_none rows.ends (rw (nothing_told _ back.good, back.cdm_back) fits))
