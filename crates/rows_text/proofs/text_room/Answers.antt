-- `rows_text::text_room` meets its contract: the definition at the branches' tests. Assumes nothing.
use mathlib.Core.Logic.{inl, inr}
use mathlib.Core.Path.{refl}
use borrow.Author.Tests.{lt-ltb, le-ltb}
use Rattle.laws.proofs.Rules.{cases}
use Rattle.job.specs.Refusals.{first}
use Rattle.rows_text.specs.RowsText.{text_room}
use Rattle.rows_text.proofs.text_room.Goals as goal

pub returns-then-columns-gt-COLUMN_LIMIT : goal.returns-then-columns-gt-COLUMN_LIMIT
unfolding text_room first
returns-then-columns-gt-COLUMN_LIMIT c = search cases

pub returns-then-cds-columns : goal.returns-then-cds-columns
unfolding text_room first
returns-then-cds-columns c =
    elim c.if-cds-columns.either [
      | inl h ↦ rw (le-ltb _ _ c.if-columns-gt-COLUMN_LIMIT.false, lt-ltb _ _ h) refl
      | inr h ↦ rw (le-ltb _ _ c.if-columns-gt-COLUMN_LIMIT.false, le-ltb _ _ h.0, lt-ltb _ _ h.1) refl
    ]

pub returns-else-cds-columns : goal.returns-else-cds-columns
unfolding text_room first
returns-else-cds-columns c = search cases
