-- A text printed whole, or refused by 9; and the line of a refusal. Assumes nothing.
use mathlib.Core.Path.{◌≡◌, refl, sym, ap, ◌∙◌}
use mathlib.Core.List.{List, [], ◌∷◌, map, append-nil}
use mathlib.Core.Option.{none, some}
use Rattle.std.specs.Prelude.{Ok, Err}
use Prim.Native.Nat.{ℕ, zero, suc, ◌+◌, ◌≤◌, ◌<◌, ◌^◌}
use native.Mathlib.Nat.{zero-add}
use native.Mathlib.Omega.{arith}
use borrow.Author.Tests.{lt-ltb, le-ltb}
use lib.ListN.{length, take, set}
use lib.Seq.{take_at}
use Rattle.protocol.specs.Entries.{bytes}
use Rattle.protocol.specs.Text.{tab, feed, digits_in, decimal}
use Rattle.protocol.specs.Fault.{line_at, byte_at, fault_by, fault_number, fault_at}
use Rattle.job.specs.Refusals.{Detail, alone, on_line, of_job, detail, refusal, refusal_of, first, lent, lent_after}
use Rattle.job.specs.declared.Refusal as Returned
use Rattle.job.proofs.Laid.{sets_first}
use Rattle.job.proofs.Refusals.{ended_refused, was_made, result_fits}
use Rattle.print.specs.Laid.{Laid}
use Rattle.print.proofs.Decimal.{decimal_short}
use Rattle.print.proofs.Ends.{printed_made}
use Rattle.print.proofs.Laid.{then, renamed, one_byte}
use Rattle.rows_text.specs.RowsText.{bad_form}
use Rattle.report.specs.Report.{fields, values, refused_text, Whole}

-- Beside the number of a fault its place is told.
told_by : (number stop : ℕ) (r : Returned.Refusal) → some (refusal_of r) ≡ bad_form (fault_by number stop)
    → detail r.beside ≡ on_line (line_at stop) (byte_at stop)
told_by zero stop r e = cc
told_by (suc n) stop r e = cc

pub fault_told : (stop end : ℕ) (r : Returned.Refusal) → some (refusal_of r) ≡ bad_form (fault_at stop end)
    → detail r.beside ≡ on_line (line_at stop) (byte_at stop)
unfolding fault_at
fault_told stop end r e = told_by (fault_number stop end) stop r e

-- The two ends of a text that is printed whole.
module _ (text out : List ℕ) where
  pub crowded : length out < length text → (r : Returned.Refusal) → refusal_of r ≡ refusal 9 alone → Whole text out (Err r) out
  unfolding first
  crowded h r e = ended_refused _ _ _ r (rw (lt-ltb _ _ h, e))

  pub roomy : length text ≤ length out → {n : ℕ} {after : List ℕ} → Laid text 0 out n after → Whole text out (Ok n) after
  unfolding first
  roomy h put = printed_made _ text out (rw (le-ltb _ _ h)) h put

  -- What was printed is within its buffer.
  pub printed_within : {n : ℕ} {after : List ℕ} → Whole text out (Ok n) after → n ≤ length after
  printed_within {n} {after} printed =
      let made = was_made printed in
      let there : after ≡ lent_after none (lent text out) = cc in
      rw (there, made.1) (result_fits text out)

-- The front of a buffer is what was laid there.
pub laid_front : {vs l l' : List ℕ} {n : ℕ} → Laid vs 0 l n l' → length vs ≤ length l → take n l' ≡ vs
laid_front {vs} {l} {l'} {n} put h =
    rw (put.laid, sets_first l vs h) (take_at vs _ n (sym (put.behind ∙ zero-add (length vs))))

-- Worked out by hand: the line of a number alone, of one with its line and byte, and of one with its job.
refusals_print : map refused_text (refusal 8 alone ∷ refusal 15 (on_line 812 1) ∷ refusal 20 (of_job 2999) ∷ [])
    ≡ bytes "refused\t8\n" ∷ bytes "refused\t15\t812\t1\n" ∷ bytes "refused\t20\t2999\n" ∷ []
unfolding refused_text fields decimal digits_in
refusals_print = refl

-- A number of 64 bits has at most twenty digits.
pub twenty : (n : ℕ) → n < 2 ^ 64 → length (decimal n) ≤ 20
twenty n h = decimal_short 19 n (omega arith)

-- A number behind its TAB, and two, each behind its own.
pub one_field : (number : ℕ) {l l' : List ℕ} {at r : ℕ} → Laid (tab ∷ decimal number) at l r l' → Laid (fields (number ∷ [])) at l r l'
unfolding fields
one_field number one = renamed (ap (λ (l : List ℕ). tab ∷ l) (sym (append-nil (decimal number)))) one

pub two_fields : (line byte : ℕ) {l l' l'' : List ℕ} {at p r : ℕ} → Laid (tab ∷ decimal line) at l p l' → Laid (tab ∷ decimal byte) p l' r l''
    → Laid (fields (line ∷ byte ∷ [])) at l r l''
unfolding fields
two_fields line byte one two = then one (one_field byte two)

-- The line of a refusal, part by part: the word and the number, with room for what is told beside them, and then all of it.
module _ (number : ℕ) (bits : number < 2 ^ 64) {l l' l'' : List ℕ} {p q : ℕ} (one : Laid (bytes "refused") 0 l p l')
    (two : Laid (tab ∷ decimal number) p l' q l'') where
  pub number_end : q + 43 ≤ 80
  number_end = omega (arith, one.behind, two.behind, twenty number bits)

  module _ (beside : Detail) {l''' : List ℕ} {r : ℕ} (three : Laid (fields (values beside)) q l'' r l''') where
    refused_laid : Laid (refused_text (refusal number beside)) 0 l (r + 1) (set l''' r feed)
    unfolding refused_text fields
    refused_laid = then (then one (then two three)) (one_byte l''' r feed)

    pub refused_front : r + 1 ≤ length l → take (r + 1) (set l''' r feed) ≡ refused_text (refusal number beside)
    refused_front h = laid_front refused_laid (omega (arith, refused_laid.behind))
