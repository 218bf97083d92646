-- `read_all::Recording::count_all`: what the jobs so far show is no longer left of the room.
use Prim.Native.Nat.{◌/◌}
use Rattle.protocol.specs.Layout.{current, entry_bytes}
use Rattle.read_all.specs.Passes.{entries_of, Filled}
use Rattle.read_all.proofs.Recording.count_all.Given as goal

abbrev pub invariant-loop-job : goal.invariant-loop-job
invariant-loop-job l = Filled (entries_of l.self.cdm.now l.self.cds.now) l.jobs (l.room / entry_bytes current) l.left l.job-index
