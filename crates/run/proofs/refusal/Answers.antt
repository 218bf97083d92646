-- `run::refusal` meets its contract: each result is the definition at the branch's tests. Assumes nothing.
use mathlib.Core.Path.{refl, sym, ◌∙◌}
use borrow.Author.Tests.{le-ltb, eq-eqb, ne_eqb, eqb-true, not-true, not-false}
use Rattle.laws.proofs.Rules.{cases}
use Rattle.job.specs.Refusals.{first}
use Rattle.run.specs.Run.{refusals}
use Rattle.run.proofs.refusal.Goals as goal
use Rattle.run.proofs.refusal.Goals.{then-banks-slaves, else-banks-slaves}

pub returns-then-slaves-gt-SLAVES : goal.returns-then-slaves-gt-SLAVES
unfolding refusals first
returns-then-slaves-gt-SLAVES c = search cases

pub returns-then-not-are_counts : goal.returns-then-not-are_counts
unfolding refusals first
returns-then-not-are_counts c =
    rw (le-ltb _ _ c.if-slaves-gt-SLAVES.false)
    (elim c.if-banks-slaves.branch [
      | then-banks-slaves w ↦ rw (ne_eqb _ _ w.if-banks-slaves.true) refl
      | else-banks-slaves w ↦
          let wrong = not-true _ (sym w.value-is ∙ c.if-not-are_counts.true) in
          rw (eq-eqb _ _ w.if-banks-slaves.false, ← w.are_counts.ensures, wrong) refl
    ])

pub returns-else-not-are_counts : goal.returns-else-not-are_counts
unfolding refusals first
returns-else-not-are_counts c =
    rw (c.size_refusal.ensures, le-ltb _ _ c.if-slaves-gt-SLAVES.false)
    (elim c.if-banks-slaves.branch [
      | then-banks-slaves w ↦ absurd (w.if-banks-slaves.true (eqb-true _ _ (not-false _ (sym w.value-is ∙ c.if-not-are_counts.false))))
      | else-banks-slaves w ↦
          let right = not-false _ (sym w.value-is ∙ c.if-not-are_counts.false) in
          rw (eq-eqb _ _ w.if-banks-slaves.false, ← w.are_counts.ensures, right, c.sizes-bytes.ensures) refl
    ])
