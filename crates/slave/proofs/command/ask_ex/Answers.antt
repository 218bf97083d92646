-- `slave::command::ask_ex` meets its contract. Assumes nothing.
use mathlib.Core.Path.{refl}
use Rattle.slave.proofs.Commands.{asks_EX}
use Rattle.slave.proofs.command.ask_ex.Goals as goal

pub returns : goal.returns
returns c =
    let a = c.args in
    record {
      over = λ k s. rw c.executed.ensures (asks_EX k a.cmd a.concerned a.seen.master a.seen.far);
      unstored = λ none. refl;
    }
