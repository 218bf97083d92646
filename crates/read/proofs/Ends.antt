-- How read ends: the refusals of the rows in the words of their branches, what lets rows through, and the ends. Assumes nothing.
use mathlib.Core.Path.{◌≡◌, sym, ◌∙◌}
use mathlib.Core.Bool.{Bool, true, false}
use mathlib.Core.List.{List}
use mathlib.Core.Option.{none, some}
use Prim.Native.Nat.{ℕ, ◌≤◌, ◌<◌}
use native.Mathlib.Omega.{arith}
use borrow.Author.Tests.{lt-ltb, le-ltb, ltb-false, leb-true, leb-false, eqb-true, not-false}
use lib.Dec.{ltb, leb}
use lib.ListN.{length}
use Rattle.std.proofs.lemmas.Bool.{or_parts}
use Rattle.protocol.specs.Layout.{current, list_bytes}
use Rattle.protocol.proofs.Codec.{length_list}
use Rattle.std.specs.Prelude.{Ok, Err}
use Rattle.job.specs.Refusals.{alone, refusal, number, first, lent_after}
use Rattle.job.specs.Rows.{row_rules, wrong_rows}
use Rattle.job.specs.declared.Reason.{Reason}
use Rattle.job.specs.declared.Reason.TheVariants as Reasons
use Rattle.job.specs.declared.Detail.TheVariants.{Alone}
use Rattle.job.proofs.Refusals.{no, stays, passes, ended_refused, ended_made}
use Rattle.read.specs.Read.{rows_refusals, list_of, refusals, Listed}
use Rattle.read.specs.Parts.{Rows, room_of, kept_all}
use Rattle.read.proofs.Kept.{kept_whole}

module _ (cdm cds : List ℕ) (k : ℕ) where
  -- The refusals of the rows in the words of their branches.
  pub rows_wrong : (why : Reason) → some (refusal (number why) alone) ≡ first (wrong_rows cdm cds)
      → some (refusal (number why) alone) ≡ first (rows_refusals cdm cds k)
  unfolding rows_refusals
  rows_wrong why e = stays (wrong_rows cdm cds) _ why e

  module _ (right : none ≡ first (wrong_rows cdm cds)) where
    pub opened_late : length cdm < k → some (refusal 8 alone) ≡ first (rows_refusals cdm cds k)
    unfolding rows_refusals first
    opened_late h = sym (passes (wrong_rows cdm cds) _ (sym right) ∙ rw (lt-ltb (length cdm) k h))

    pub rows_good : k ≤ length cdm → none ≡ first (rows_refusals cdm cds k)
    unfolding rows_refusals first
    rows_good h = sym (passes (wrong_rows cdm cds) _ (sym right) ∙ rw (le-ltb (length cdm) k h))

  -- What the rows are where they are not refused.
  pub rows_through : first (rows_refusals cdm cds k) ≡ none → Rows cdm cds k
  unfolding rows_refusals wrong_rows row_rules
  rows_through e =
      record {
        short = ltb-false _ _ (or_parts _ _ (no 5 _ e)).0;
        equal = eqb-true _ _ (not-false _ (no 6 _ e));
        within = ltb-false _ _ (no 8 _ e);
      }

  module _ (out : List ℕ) where
    abbrev crowded : Bool
    crowded = ltb (length out) (length (list_bytes current (list_of k cdm cds)))

    -- Refused by the rows.
    pub rows_refused : (why : Reason) → some (refusal (number why) alone) ≡ first (rows_refusals cdm cds k)
        → Listed cdm cds k out (Err (record { reason = why; beside = Alone })) out
    unfolding refusals
    rows_refused why e = record { ends = ended_refused _ _ _ _ (sym (stays (rows_refusals cdm cds k) _ why e)) }

    module _ (through : first (rows_refusals cdm cds k) ≡ none) where
      -- Let through by the rows, room decides.
      nine : crowded ≡ true → first (refusals cdm cds k (length out)) ≡ some (refusal 9 alone)
      unfolding first refusals
      nine e = passes (rows_refusals cdm cds k) _ through ∙ rw e

      pub not_refused : length (list_bytes current (list_of k cdm cds)) ≤ length out → first (refusals cdm cds k (length out)) ≡ none
      unfolding first refusals
      not_refused h = passes (rows_refusals cdm cds k) _ through ∙ rw (le-ltb _ _ h)

      module _ (f : Bool) (fits : f ≡ leb (length (list_of k cdm cds)) (room_of out)) where
        pub room_refused : f ≡ false → Listed cdm cds k out (Err (record { reason = Reasons.NoRoom; beside = Alone })) out
        room_refused e =
            let few : room_of out < length (list_of k cdm cds) = leb-false _ _ (sym fits ∙ e) in
            let more : length out < length (list_bytes current (list_of k cdm cds)) = omega (arith, length_list current (list_of k cdm cds)) in
            record { ends = ended_refused _ _ _ _ (nine (lt-ltb _ _ more)) }

        pub list_made : f ≡ true → (n : ℕ) (after : List ℕ) → n ≡ length (list_of k cdm cds) → after ≡ kept_all out 0 (list_of k cdm cds)
            → Listed cdm cds k out (Ok n) after
        unfolding lent_after
        list_made e n after count laid =
            let enough : length (list_of k cdm cds) ≤ room_of out = leb-true _ _ (sym fits ∙ e) in
            let no_more : length (list_bytes current (list_of k cdm cds)) ≤ length out = omega (arith, length_list current (list_of k cdm cds)) in
            record { ends = ended_made _ _ _ n _ (not_refused no_more) count (rw (laid, kept_whole (list_of k cdm cds) out enough)) }
