-- `slave::data::ask_p` meets its contract, a law for each result. Assumes nothing.
use mathlib.Core.Path.{sym, ◌∙◌}
use borrow.Author.Rules.{rules}
use Rattle.slave.proofs.Accesses.{on_few, asks_on, asks_end}
use Rattle.slave.proofs.Turns.{quiet}
use Rattle.slave.proofs.data.ask_p.Goals as goal

pub overflow_add-next : goal.overflow_add-next
overflow_add-next c = let few = on_few _ _ _ _ (sym c.goes_on.ensures ∙ c.if-goes_on.true) in search rules

pub returns-then-goes_on : goal.returns-then-goes_on
returns-then-goes_on c =
    quiet c.said.ensures (λ k s. asks_on k _ _ c.args.passed _ _ _ s c.goes_on.ensures c.if-goes_on.true)

pub returns-else-goes_on : goal.returns-else-goes_on
returns-else-goes_on c =
    quiet c.said-else-goes_on.ensures (λ k s. asks_end k _ _ c.args.passed _ _ _ s c.goes_on.ensures c.if-goes_on.false)
