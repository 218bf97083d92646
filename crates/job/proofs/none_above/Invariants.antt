-- The loop's invariant of `job::none_above`: what was found, with what is left of the bytes, decides what all of them decide.
use mathlib.Core.Path.{◌≡◌}
use mathlib.Core.Bool.{◌&&◌}
use lib.ListN.{drop}
use Rattle.job.specs.Bytes.{none_above}
use Rattle.job.proofs.none_above.Given as goal

abbrev pub invariant-loop-byte : goal.invariant-loop-byte
invariant-loop-byte l = l.good && none_above l.limit (drop l.byte-index l.bytes) ≡ none_above l.limit l.bytes
