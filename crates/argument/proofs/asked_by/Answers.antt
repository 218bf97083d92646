-- `argument::asked_by` meets its contract: help, no number, or the number. Assumes nothing.
use mathlib.Core.Path.{sym, ◌∙◌}
use Rattle.argument.specs.Argument.{asked_by}
use Rattle.argument.proofs.asked_by.Goals as goal

pub returns-then-is_help : goal.returns-then-is_help
unfolding asked_by
returns-then-is_help c = rw (sym c.is_help.ensures ∙ c.if-is_help.true)

pub returns-then-is_empty : goal.returns-then-is_empty
unfolding asked_by
returns-then-is_empty c = rw (sym c.is_help.ensures ∙ c.if-is_help.false, sym c.is_empty.ensures ∙ c.if-is_empty.true)

pub returns : goal.returns
unfolding asked_by
returns c = rw (sym c.is_help.ensures ∙ c.if-is_help.false, sym c.is_empty.ensures ∙ c.if-is_empty.false) c.number.ensures
