-- Bytes become a list, or refusal 12. Assumes nothing.
use mathlib.Core.Path.{refl}
use Rattle.job.specs.Refusals.{first}
use Rattle.lists.proofs.ListTryFromRefSliceU8.try_from.Goals as goal

pub returns-then-is_list : goal.returns-then-is_list
unfolding first
returns-then-is_list c = record { why = rw (← c.if-is_list.ensures); entries = refl }

pub returns-else-is_list : goal.returns-else-is_list
unfolding first
returns-else-is_list c = record { why = rw (← c.if-is_list.ensures); entries = tt }
