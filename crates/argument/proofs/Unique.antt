-- The promise of asked_by has one result: two results that meet it are equal. Assumes nothing.
use mathlib.Core.Path.{◌≡◌}
use mathlib.Core.List.{List}
use Prim.Native.Nat.{ℕ}
use Rattle.std.specs.Prelude.{Option}
use Rattle.laws.proofs.Unique.{one_result}
use Rattle.argument.specs.Argument.{asked_by}
use Rattle.argument.specs.declared.Asked.{Asked}

asked_by_unique : (argument : List ℕ) (a b : Option Asked) → a ≡ asked_by argument → b ≡ asked_by argument → a ≡ b
asked_by_unique argument a b p q = one_result p q
