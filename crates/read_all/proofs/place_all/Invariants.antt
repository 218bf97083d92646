-- `read_all::place_all`: behind i jobs what is left comes to the same as all.
use Rattle.read_all.specs.ReadAll.{place_refusals}
use Rattle.read_all.specs.Passes.{Searched}
use Rattle.read_all.proofs.place_all.Given as goal

abbrev pub invariant-loop-i : goal.invariant-loop-i
invariant-loop-i l = Searched (place_refusals l.columns) l.jobs l.i
