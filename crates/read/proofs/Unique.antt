-- Read's promise has one result: two results that meet it are equal, and so are the buffers that they leave. Assumes nothing.
use mathlib.Core.Path.{◌≡◌}
use mathlib.Core.List.{List}
use Prim.Native.Nat.{ℕ}
use Rattle.std.specs.Prelude.{Result}
use Rattle.job.specs.declared.Refusal.{Refusal}
use Rattle.job.proofs.Refusals.{ended_unique}
use Rattle.read.specs.Read.{Listed}

read_unique : {cdm cds : List ℕ} {k : ℕ} {out : List ℕ} {a b : Result ℕ Refusal} {after other : List ℕ} → Listed cdm cds k out a after
    → Listed cdm cds k out b other → (a ≡ b) × (after ≡ other)
read_unique p q = let same = ended_unique p.ends q.ends in (same.0, cc)
