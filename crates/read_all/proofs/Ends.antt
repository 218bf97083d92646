-- The ends of the call: refused by the lengths, by a job or for want of room, or all made. Assumes nothing.
use mathlib.Core.Path.{◌≡◌, refl, sym, ◌∙◌}
use mathlib.Core.List.{List, ◌∷◌}
use mathlib.Core.Option.{Option, none, some, or_else}
use Prim.Native.Nat.{ℕ, ◌≤◌}
use native.Mathlib.Omega.{arith}
use borrow.Author.Tests.{ltb-false, eqb-true, ne_eqb, not-false}
use lib.ListN.{length}
use lib.Seq.{sets}
use Rattle.std.specs.Prelude.{Result, Ok, Err}
use Rattle.protocol.specs.Layout.{current, list_bytes}
use Rattle.protocol.proofs.Codec.{length_list}
use Rattle.job.specs.Refusals.{Refusal, Rule, found, first, refusal_of, lent_after}
use Rattle.job.specs.declared.Reason.TheVariants.{WrongTally}
use Rattle.job.specs.declared.Detail.TheVariants.{Alone}
use Rattle.job.specs.declared.Refusal as Returned
use Rattle.job.proofs.Refusals.{no, first_append, ended_refused, ended_made, laid}
use Rattle.read.specs.Parts.{room_of, kept_all}
use Rattle.read.proofs.Kept.{kept_whole}
use Rattle.read_all.specs.declared.Job.{Job}
use Rattle.read_all.specs.ReadAll.{lists_of, counts_of, place_refusals, own_refusals, first_job, refusals, ListedAll}
use Rattle.read_all.specs.Passes.{length_refusals, room_refusals, Good}
use Rattle.read_all.proofs.Tables.{length_counts}

module _ (cdm cds : List ℕ) (jobs : List Job) (out counts : List ℕ) where
  abbrev Ends : Result ℕ Returned.Refusal → (after tally : List ℕ) → Type 0
  Ends = ListedAll cdm cds jobs out counts

  abbrev given_all : Option Refusal
  given_all = first (refusals cdm cds jobs (length out) (length counts))

  -- What each pass may give.
  abbrev lengths : List Rule
  lengths = length_refusals (length cdm) (length cds) (length jobs) (length counts)

  abbrev placing : Option Refusal
  placing = first_job (place_refusals (length cdm)) 0 jobs

  abbrev judging : Option Refusal
  judging = first_job (own_refusals cdm cds) 0 jobs

  abbrev counting : Option Refusal
  counting = first (room_refusals cdm cds jobs (length out))

  in_order : given_all ≡ or_else (first lengths) (or_else placing (or_else judging counting))
  unfolding refusals room_refusals length_refusals first
  in_order = first_append lengths (found 20 placing ∷ found 5 judging ∷ room_refusals cdm cds jobs (length out))

  module _ (r : Returned.Refusal) where
    refused_ends : given_all ≡ some (refusal_of r) → Ends (Err r) out counts
    refused_ends e = record { ends = ended_refused _ _ _ r e }

    -- By 32 or 6, by 20, by the reader's own or by 9, with both buffers as they were lent ..
    pub uneven_ends : some (refusal_of r) ≡ first lengths → Ends (Err r) out counts
    unfolding or_else
    uneven_ends e = refused_ends (in_order ∙ rw (← e))

    module _ (even : none ≡ first lengths) where
      pub outside_ends : some (refusal_of r) ≡ placing → Ends (Err r) out counts
      unfolding or_else
      outside_ends e = refused_ends (in_order ∙ rw (← even, ← e))

      module _ (within : none ≡ placing) where
        pub own_ends : some (refusal_of r) ≡ judging → Ends (Err r) out counts
        unfolding or_else
        own_ends e = refused_ends (in_order ∙ rw (← even, ← within, ← e))

        pub crowded_ends : none ≡ judging → some (refusal_of r) ≡ counting → Ends (Err r) out counts
        unfolding or_else
        crowded_ends clear e = refused_ends (in_order ∙ rw (← even, ← within, ← clear, ← e))

  -- The first of all is 32 ..
  pub begun_uneven : (length counts ≡ length jobs → ⊥) → Ends (Err (record { reason = WrongTally; beside = Alone })) out counts
  unfolding length_refusals first
  begun_uneven h = uneven_ends _ (rw (ne_eqb _ _ h) refl)

  -- .. or by none of them: then the rows are of one length, there is a count for each job, and no job is refused ..
  module _ (even : none ≡ first lengths) where
    pub one_each : length counts ≡ length jobs
    unfolding length_refusals
    one_each = eqb-true _ _ (not-false _ (no 32 lengths (sym even)))

    pub same_rows : length cdm ≡ length cds
    unfolding length_refusals
    same_rows = eqb-true _ _ (not-false _ (no 6 lengths (sym even)))

    pub good : none ≡ placing → none ≡ judging → Good cdm cds jobs
    good within clear = record { placed = record { inside = sym within }; clear = sym clear }

    -- .. all lists have room ..
    pub room : none ≡ counting → length (lists_of cdm cds jobs) ≤ room_of out
    unfolding room_refusals
    room enough =
        let fits : length (list_bytes current (lists_of cdm cds jobs)) ≤ length out = ltb-false _ _ (no 9 _ (sym enough)) in
        omega (arith, length_list current (lists_of cdm cds jobs))

    -- .. and all lists and counts stand in the buffers.
    pub made_ends : none ≡ placing → none ≡ judging → none ≡ counting → (n : ℕ) (after tally : List ℕ) → n ≡ length (lists_of cdm cds jobs)
        → after ≡ kept_all out 0 (lists_of cdm cds jobs) → tally ≡ sets counts 0 (counts_of cdm cds jobs) → Ends (Ok n) after tally
    unfolding or_else lent_after list_bytes
    made_ends within clear enough n after tally e a t =
        let one : length (counts_of cdm cds jobs) ≤ length counts = omega (arith, one_each, length_counts cdm cds jobs) in
        rw (a, t) (record {
          ends =
              ended_made _ _ _ n _ (in_order ∙ rw (← even, ← within, ← clear, ← enough)) e
              (rw (kept_whole (lists_of cdm cds jobs) out (room enough), laid (counts_of cdm cds jobs) counts one) refl);
        })
