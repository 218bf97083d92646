-- The end of a job that printed a text, and what it says that it printed. Assumes nothing.
use mathlib.Core.Path.{◌≡◌, ◌∙◌}
use mathlib.Core.List.{List}
use mathlib.Core.Option.{none}
use Rattle.std.specs.Prelude.{Ok}
use Prim.Native.Nat.{ℕ, ◌≤◌}
use native.Mathlib.Nat.{zero-add}
use lib.ListN.{length, take}
use Rattle.job.specs.Refusals.{Rule, first, lent, lent_after}
use Rattle.job.proofs.Refusals.{laid, result_first, ended_made, was_made}
use Rattle.print.specs.Laid.{Laid}
use Rattle.print.specs.Printed.{Printed}

pub printed_made : (rules : List Rule) (text out : List ℕ) {n : ℕ} {after : List ℕ} → first rules ≡ none → length text ≤ length out
    → Laid text 0 out n after → Printed rules text out (Ok n) after
printed_made rules text out {n} e h put =
    ended_made rules _ _ n _ e (put.behind ∙ zero-add (length text)) (rw (put.laid, laid text out h))

-- And back: the text stands at the start of the buffer.
pub was_printed : {rules : List Rule} {n : ℕ} {text out after : List ℕ} → Printed rules text out (Ok n) after
    → (first rules ≡ none) × (n ≡ length text) × (take n after ≡ text)
was_printed {n} {text} {out} {after} printed =
    let made = was_made printed in
    let there : after ≡ lent_after none (lent text out) = cc in
    (made.0, made.1, rw (made.1, there) (result_first text out))
