-- The promise of a night's intake has one result: two results that meet it are equal, and so are the lists and the counts that they leave.
-- Assumes nothing.
use mathlib.Core.Path.{◌≡◌}
use mathlib.Core.List.{List}
use Prim.Native.Nat.{ℕ}
use Rattle.std.specs.Prelude.{Result}
use Rattle.job.specs.declared.Refusal as Returned
use Rattle.job.proofs.Refusals.{ended_unique}
use Rattle.read_all.specs.declared.Job.{Job}
use Rattle.read_all.specs.ReadAll.{ListedAll}

read_all_unique : {cdm cds : List ℕ} {jobs : List Job} {out counts : List ℕ} {a b : Result ℕ Returned.Refusal} {after other tally others : List ℕ}
    → ListedAll cdm cds jobs out counts a after tally → ListedAll cdm cds jobs out counts b other others
    → (a ≡ b) × (after ≡ other) × (tally ≡ others)
read_all_unique p q = let same = ended_unique p.ends q.ends in (same.0, cc, cc)
