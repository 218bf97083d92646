-- `read_all::Recording::write_all`: behind i jobs what is left comes to the same as all.
use Rattle.read_all.specs.Passes.{Written}
use Rattle.read_all.proofs.Recording.write_all.Given as goal

abbrev pub invariant-loop-i : goal.invariant-loop-i
invariant-loop-i l = Written l.self.cdm.now l.self.cds.now l.jobs l.initial.out l.initial.counts l.i l.made l.out l.counts
