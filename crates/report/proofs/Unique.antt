-- The promises of this crate have one result: report, long_report and refused each promise a text printed whole, and two results that meet
-- such a promise are equal, in what is returned and in every lent byte. Print's law, cited. Assumes nothing.
use mathlib.Core.Path.{◌≡◌}
use mathlib.Core.List.{List}
use Prim.Native.Nat.{ℕ}
use Rattle.std.specs.Prelude.{Result}
use Rattle.job.specs.declared.Refusal as Returned
use Rattle.print.proofs.Unique.{printed_unique}
use Rattle.report.specs.Report.{Whole}

whole_unique : {text out : List ℕ} {a b : Result ℕ Returned.Refusal} {x y : List ℕ} → Whole text out a x → Whole text out b y → (a ≡ b) × (x ≡ y)
whole_unique p q = printed_unique p q
