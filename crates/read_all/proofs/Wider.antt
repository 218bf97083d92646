-- A stretch judged by its parts of the rows, and further than it goes. Assumes nothing.
use mathlib.Core.Path.{◌≡◌, refl, sym}
use mathlib.Core.Bool.{true, true≢false}
use mathlib.Core.List.{List}
use mathlib.Core.Option.{none}
use Prim.Native.Nat.{ℕ, ◌+◌, ◌-◌, ◌≤◌}
use native.Mathlib.Omega.{arith}
use lib.ListN.{length, take, drop, length-take, length-drop}
use lib.Seq.{take-take}
use Rattle.std.specs.Prelude.{Result, Ok, Err, is_ok}
use Rattle.job.specs.Bytes.{are_bits}
use Rattle.job.specs.Refusals.{first, given}
use Rattle.job.specs.declared.Reason.{Reason}
use Rattle.job.specs.Rows.{wrong_rows}
use Rattle.job.proofs.Bits.{bits_take}
use Rattle.job.proofs.Refusals.{none_before}
use Rattle.job.proofs.Rows.{Right, right_rows, not_wrong}
use Rattle.read.specs.Read.{rows_refusals}
use Rattle.read.proofs.Ends.{rows_good}
use Rattle.read_all.specs.declared.Job.{Job}
use Rattle.read_all.specs.ReadAll.{stretch, own_refusals}
use Rattle.read_all.proofs.Tables.{same_stretch}

-- What the reader gives of the parts is its own of the stretch.
pub own_given : {A : Type 0} (cdm cds : List ℕ) (j : Job) {a b : List ℕ} (r : Result A Reason) → a ≡ stretch j cdm → b ≡ stretch j cds
    → given r ≡ first (rows_refusals a b j.opening) → given r ≡ first (own_refusals cdm cds j)
unfolding own_refusals
own_given cdm cds j r p q e = rw (← p, ← q) e

-- Nothing is given where all is right.
pub said_right : {A : Type 0} (r : Result A Reason) → true ≡ is_ok r → given r ≡ none
said_right (Ok a) e = refl
said_right (Err reason) e = absurd (true≢false e)

-- Where nothing is wrong up to a place behind its end, and it is opened in time, nothing is wrong in a stretch.
module _ (cdm cds : List ℕ) (j : Job) (even : length cdm ≡ length cds) (inside : j.first + j.length ≤ length cdm) (wide : ℕ) (behind : j.first + j.length ≤ wide) (within : wide ≤ length cdm)
  where
    abbrev wider : List ℕ → List ℕ
    wider row = take (wide - j.first) (drop j.first row)

    front : (row : List ℕ) → are_bits (wider row) ≡ true → are_bits (stretch j row) ≡ true
    front row e = rw (← take-take j.length (wide - j.first) (drop j.first row) (omega arith)) (bits_take j.length (wider row) e)

    long : length (stretch j cdm) ≡ j.length
    long = omega (arith, length-take j.length (drop j.first cdm), length-drop j.first cdm)

    pub clear_wider : first (rows_refusals (wider cdm) (wider cds) j.opening) ≡ none → j.opening ≤ j.length
        → none ≡ first (own_refusals cdm cds j)
    unfolding own_refusals rows_refusals
    clear_wider e early =
        let rows = right_rows (wider cdm) (wider cds) (none_before (wrong_rows (wider cdm) (wider cds)) _ e) in
        let lengths = length-take (wide - j.first) (drop j.first cdm) in
        let right : Right (stretch j cdm) (stretch j cds)
        = record {
          short = omega (arith, long, rows.short, lengths, length-drop j.first cdm);
          same = same_stretch cdm cds j even;
          cdm_bits = front cdm rows.cdm_bits;
          cds_bits = front cds rows.cds_bits;
        } in
        let here = stretch j cdm in
        let beside = stretch j cds in
        rows_good here beside j.opening (sym (not_wrong here beside right)) (omega (arith, long, early))
