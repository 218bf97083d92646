-- The promise of build has one result: two results that meet it are equal, in what is returned and in every lent byte. Assumes nothing.
use mathlib.Core.Path.{◌≡◌}
use mathlib.Core.List.{List}
use Prim.Native.Nat.{ℕ}
use Rattle.std.specs.Prelude.{Result}
use Rattle.protocol.specs.Building.{Request}
use Rattle.job.specs.declared.Refusal.{Refusal}
use Rattle.job.proofs.Refusals.{ended_unique}
use Rattle.build.specs.Build.{Built}

built_unique : {r : Request} {out : List ℕ} {a b : Result ℕ Refusal} {x y : List ℕ} → Built r out a x → Built r out b y → (a ≡ b) × (x ≡ y)
built_unique p q = let same = ended_unique p.ends q.ends in (same.0, cc)
