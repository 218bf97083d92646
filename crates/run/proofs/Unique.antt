-- The promise of run has one result: two results that meet it are equal, with every lent byte. Assumes nothing.
use mathlib.Core.Path.{◌≡◌}
use mathlib.Core.List.{List}
use Prim.Native.Nat.{ℕ}
use Rattle.std.specs.Prelude.{Result}
use Rattle.job.specs.declared.Refusal.{Refusal}
use Rattle.job.proofs.Refusals.{ended_unique}
use Rattle.run.specs.Run.{Ran}

run_unique : {slaves : ℕ} {table rights waits registers counts cdm cds : List ℕ} {a b : Result ℕ Refusal}
    {registers' registers'' counts' counts'' cds' cds'' : List ℕ}
    → Ran slaves table rights waits registers counts cdm cds a registers' counts' cds'
    → Ran slaves table rights waits registers counts cdm cds b registers'' counts'' cds''
    → (a ≡ b) × (registers' ≡ registers'') × (counts' ≡ counts'') × (cds' ≡ cds'')
run_unique p q = let same = ended_unique p.ends q.ends in (same.0, cc, cc, cc)
