-- `read_all::Recording::judge_all`: behind i jobs what is left comes to the same as all.
use Rattle.read_all.specs.ReadAll.{own_refusals}
use Rattle.read_all.specs.Passes.{Searched}
use Rattle.read_all.proofs.Recording.judge_all.Given as goal

abbrev pub invariant-loop-i : goal.invariant-loop-i
invariant-loop-i l = Searched (own_refusals l.self.cdm.now l.self.cds.now) l.jobs l.i
