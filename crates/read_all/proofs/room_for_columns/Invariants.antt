-- `read_all::room_for_columns`: what the jobs so far need of the room is no longer left.
use Rattle.read_all.specs.Passes.{columns_of, Filled}
use Rattle.read_all.proofs.room_for_columns.Given as goal

abbrev pub invariant-loop-job : goal.invariant-loop-job
invariant-loop-job l = Filled columns_of l.jobs l.room l.left l.job-index
