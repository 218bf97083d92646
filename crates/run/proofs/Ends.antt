-- How run ends: what is known of a chain that is let through, and the two ends. Assumes nothing.
use mathlib.Core.Path.{◌≡◌, refl, sym, ap, ◌∙◌}
use mathlib.Core.Bool.{true}
use mathlib.Core.List.{List}
use mathlib.Core.Option.{none, some}
use Rattle.std.proofs.lemmas.Bool.{or_parts}
use Rattle.std.specs.Prelude.{Ok, Err}
use Prim.Native.Nat.{ℕ, ◌*◌, ◌≤◌}
use borrow.Author.Tests.{ltb-false, eqb-true, not-false}
use lib.Dec.{eqb}
use lib.ListN.{length}
use Rattle.protocol.specs.Limits.{column_limit, command_count}
use Rattle.laws.proofs.Every.{both}
use Rattle.job.specs.Bytes.{are_bits}
use Rattle.job.specs.Refusals.{alone, refusal, Rule, first, number, lent, lent_after}
use Rattle.job.specs.Rows.{row_rules, wrong_row}
use Rattle.job.specs.declared.Reason.{Reason}
use Rattle.job.specs.declared.Detail.TheVariants.{Alone}
use Rattle.job.proofs.Refusals.{no, laid_whole, ended_refused, ended_made}
use Rattle.run.specs.Run.{are_counts, size_refusals, refusals, Ran}
use Rattle.run.specs.Parts.{Holds, Rowed}

-- A result that fills its buffer.
whole_buffer : (result before : List ℕ) {after : List ℕ} → after ≡ result → length after ≡ length before
    → after ≡ lent_after none (lent result before)
whole_buffer result before e same = e ∙ laid_whole result before (ap length (sym e) ∙ same)

-- What no refusal says of the lent bytes.
module _ (slaves : ℕ) (table registers rights waits counts cdm cds : List ℕ)
    (e : first (refusals slaves table (length registers) rights (length waits) (length counts) cdm (length cds)) ≡ none) where
  pub right_table : (length table ≡ slaves) × (are_counts table ≡ true)
  unfolding refusals
  right_table = let b = both (eqb (length table) slaves) (are_counts table) (not-false _ (no 19 _ e)) in (eqb-true _ _ b.0, b.1)

  pub held : Holds table registers rights waits counts
  unfolding refusals size_refusals
  held =
      record {
        all_registers = eqb-true _ _ (not-false _ (no 2 _ e));
        all_rights = eqb-true _ _ (not-false _ (no 3 _ e));
        all_waits = eqb-true _ _ (not-false _ (no 18 _ e)) ∙ sym right_table.0;
        all_counts = eqb-true _ _ (not-false _ (no 21 _ e)) ∙ ap (λ (n : ℕ). command_count * n) (sym right_table.0);
      }

  pub short_row : length cdm ≤ column_limit
  unfolding refusals size_refusals wrong_row row_rules
  short_row = ltb-false _ _ (or_parts _ _ (no 5 _ e)).0

  pub same_rows : length cds ≡ length cdm
  unfolding refusals size_refusals wrong_row row_rules
  same_rows = sym (eqb-true _ _ (not-false _ (no 6 _ e)))

  pub master_bits : are_bits cdm ≡ true
  unfolding refusals size_refusals wrong_row row_rules
  master_bits = not-false _ (no 7 _ e)

module _ (slaves : ℕ) (table rights waits registers counts cdm cds : List ℕ) where
  abbrev rules : List Rule
  rules = refusals slaves table (length registers) rights (length waits) (length counts) cdm (length cds)

  pub ran_refused : (reason : Reason) → some (refusal (number reason) alone) ≡ first rules
      → Ran slaves table rights waits registers counts cdm cds (Err (record { reason = reason; beside = Alone })) registers counts cds
  ran_refused reason e = record { ends = ended_refused _ _ _ _ (sym e) }

  pub ran_made : (registers' counts' cds' : List ℕ) → first rules ≡ none → Rowed table rights waits registers cdm registers' counts' cds'
      → length registers' ≡ length registers → length counts' ≡ length counts → length cds' ≡ length cds
      → Ran slaves table rights waits registers counts cdm cds (Ok (length cdm)) registers' counts' cds'
  ran_made registers' counts' cds' e r same-registers same-counts same_row =
      let in_registers = whole_buffer _ registers r.registers_after same-registers in
      let in_counts = whole_buffer _ counts r.counts_after same-counts in
      let InRow = whole_buffer _ cds r.row same_row in
      record { ends = ended_made _ _ _ (length cdm) _ e refl (cc (in_registers, in_counts, InRow)) }
