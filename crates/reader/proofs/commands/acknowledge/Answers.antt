-- `reader::commands::acknowledge` meets its contract where the column does not end the command. Assumes nothing.
use mathlib.Core.Path.{sym, ◌∙◌}
use Rattle.reader.proofs.Answering.{answers}
use Rattle.reader.proofs.commands.acknowledge.Goals as goal

pub returns-else-stops : goal.returns-else-stops
returns-else-stops c = c.acknowledged.ensures ∙ sym (answers _ _ _ _ _ _ _ _ (sym c.stops.ensures ∙ c.if-stops.false))
