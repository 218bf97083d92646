-- What a job that prints a text promises, whatever the text and its refusals are.
use Rattle.std.specs.Prelude.{List, [], ◌∷◌, ℕ, length, Result}
use Rattle.job.specs.Refusals.{Rule, lent, Ended}
use Rattle.job.specs.declared.Refusal.{Refusal}

-- What a call that prints returns, in bytes, and what it leaves in the lent buffer.
abbrev pub Printed : (refusals : List Rule) → (text out : List ℕ) → Result ℕ Refusal → (after : List ℕ) → Type 0
Printed refusals text out outcome after = Ended refusals (length text) (lent text out ∷ []) outcome (after ∷ [])
