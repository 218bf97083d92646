-- `lists::entry_at` meets its contract: what stands at the place is what the bytes from there on have. Assumes nothing.
use mathlib.Core.Path.{ap, ◌∙◌}
use native.Mathlib.Nat.{add-zero}
use native.Mathlib.Omega.{arith}
use Rattle.protocol.specs.Pieces.{number_at}
use Rattle.lists.specs.Fields.{fields_at, fields_by}
use Rattle.lists.proofs.Walk.{part_fields}
use Rattle.lists.proofs.entry_at.Goals as goal

pub returns : goal.returns
unfolding fields_at number_at
returns c = rw (add-zero c.args.i) (c.behind.ensures ∙ ap (fields_by _) (part_fields c.args.list.now c.args.i _ (omega arith)))
