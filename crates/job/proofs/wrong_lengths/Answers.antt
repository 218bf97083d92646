-- `job::wrong_lengths` meets its contract: the definition at the branches' tests. Assumes nothing.
use mathlib.Core.Path.{refl}
use mathlib.Core.Logic.{inl, inr}
use borrow.Author.Tests.{lt-ltb, le-ltb}
use Rattle.laws.proofs.Rules.{cases}
use Rattle.job.specs.Refusals.{first}
use Rattle.job.specs.Rows.{row_rules}
use Rattle.job.proofs.wrong_lengths.Goals as goal

pub returns-then-others-gt-COLUMN_LIMIT : goal.returns-then-others-gt-COLUMN_LIMIT
unfolding row_rules first
returns-then-others-gt-COLUMN_LIMIT c =
    elim c.if-others-gt-COLUMN_LIMIT.either [
      | inl h ↦ rw (lt-ltb _ _ h) refl
      | inr h ↦ rw (le-ltb _ _ h.0, lt-ltb _ _ h.1) refl
    ]

pub returns-then-columns-others : goal.returns-then-columns-others
unfolding row_rules first
returns-then-columns-others c = search cases

pub returns-else-columns-others : goal.returns-else-columns-others
unfolding row_rules first
returns-else-columns-others c = search cases
