-- The promises of printing have one result: two results that meet one are equal, in what is returned and in every lent byte.
-- Assumes nothing.
use mathlib.Core.Path.{◌≡◌}
use mathlib.Core.List.{List}
use Prim.Native.Nat.{ℕ}
use Rattle.std.specs.Prelude.{Result}
use Rattle.laws.proofs.Unique.{one_result}
use Rattle.job.specs.Refusals.{Rule}
use Rattle.job.specs.declared.Refusal.{Refusal}
use Rattle.job.proofs.Refusals.{ended_unique}
use Rattle.print.specs.Laid.{Laid}
use Rattle.print.specs.Printed.{Printed}

laid_unique : (bytes lent : List ℕ) (at a b : ℕ) (x y : List ℕ) → Laid bytes at lent a x → Laid bytes at lent b y → (a ≡ b) × (x ≡ y)
laid_unique bytes lent at a b x y p q = (one_result p.behind q.behind, one_result p.laid q.laid)

-- Rows to text, and list to text.
pub printed_unique : {rules : List Rule} {text out : List ℕ} {a b : Result ℕ Refusal} {x y : List ℕ} → Printed rules text out a x
    → Printed rules text out b y → (a ≡ b) × (x ≡ y)
printed_unique p q = let same = ended_unique p q in (same.0, cc)
