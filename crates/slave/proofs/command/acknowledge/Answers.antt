-- `slave::command::acknowledge` meets its contract, a law for each result. Assumes nothing.
use Rattle.slave.proofs.Commands.{acknowledge_ends, acknowledge_on, acknowledge_last}
use Rattle.slave.proofs.Turns.{quiet}
use Rattle.slave.proofs.command.acknowledge.Goals as goal

pub returns-then-stops : goal.returns-then-stops
returns-then-stops c =
    quiet c.said.ensures (λ k s. acknowledge_ends k _ _ _ _ _ _ c.stops.ensures c.if-stops.true)

pub returns-then-command-execute_column : goal.returns-then-command-execute_column
returns-then-command-execute_column c =
    quiet c.said-then-command-execute_column.ensures
    (λ k s.
    acknowledge_on k _ _ _ _ _ _ c.stops.ensures c.execute_column.ensures.0 c.acknowledged-sent.ensures c.if-stops.false
    c.if-command-execute_column.true)

pub returns-else-command-execute_column : goal.returns-else-command-execute_column
returns-else-command-execute_column c =
    quiet c.said-else-command-execute_column.ensures
    (λ k s.
    acknowledge_last k _ _ _ _ _ _ c.stops.ensures c.execute_column.ensures.0 c.acknowledged-sent.ensures c.if-stops.false
    c.concerned-concerned.ensures c.if-command-execute_column.false)
