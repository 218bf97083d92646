-- A chain over rows: one row after another, an answer a column, and fourteen zeros, which bring every slave of any chain to rest. Assumes nothing.
use mathlib.Core.Path.{◌≡◌, refl, ap}
use mathlib.Core.Bool.{Bool, false}
use mathlib.Core.List.{List, [], ◌∷◌, ◌++◌}
use Prim.Native.Nat.{ℕ, zero, suc}
use lib.ListN.{length, replicate}
use Rattle.protocol.specs.Limits.{rest_zeros}
use Rattle.protocol.specs.Rest.{rest}
use Rattle.protocol.specs.Slave.{Slave, speak, begun, step}
use Rattle.protocol.specs.Chain.{pass, column, answers, after}
use Rattle.protocol.proofs.Rest.{Soon, soon_rest, fourteen}
use Rattle.protocol.proofs.Machine.{soon_step}
use Rattle.laws.proofs.Every.{Every}

-- One row after another: the chain goes on from the slaves that the first leaves.
pub answers_append : (ss : List Slave) (xs ys : List Bool) → answers ss (xs ++ ys) ≡ answers ss xs ++ answers (after ss xs) ys
unfolding answers after
answers_append ss [] ys = refl
answers_append ss (m ∷ xs) ys = ap (λ (l : List Bool). (column ss m).answer ∷ l) (answers_append (column ss m).slaves xs ys)

pub after_append : (ss : List Slave) (xs ys : List Bool) → after ss (xs ++ ys) ≡ after (after ss xs) ys
unfolding after
after_append ss [] ys = refl
after_append ss (m ∷ xs) ys = after_append (column ss m).slaves xs ys

-- A chain answers every column.
pub answers_length : (ss : List Slave) (row : List Bool) → length (answers ss row) ≡ length row
unfolding answers
answers_length ss [] = refl
answers_length ss (m ∷ row) = ap suc (answers_length (column ss m).slaves row)

-- Every slave is so many zeros from rest.
abbrev pub AllSoon : ℕ → List Slave → Type 0
AllSoon n ss = Every (λ s. Soon begun n s.state) ss

-- A zero brings each of them one nearer, whatever bits go along the chain.
soon_pass : (n : ℕ) (ss : List Slave) (b : Bool) → AllSoon (suc n) ss → AllSoon n (pass ss false b).slaves
unfolding pass step
soon_pass n [] b h = tt
soon_pass n (s ∷ ss) b h = (
  soon_step begun _ _ (λ p. speak s.memory p false b) s.state n h.0,
  soon_pass n ss (step s false b).says.sent h.1,
)

pub soon_after : (n : ℕ) (ss : List Slave) → AllSoon n ss → Every (λ s. s.state ≡ rest) (after ss (replicate n false))
unfolding after
soon_after zero [] h = tt
soon_after zero (s ∷ ss) h = (soon_rest begun s.state h.0, soon_after zero ss h.1)
soon_after (suc n) ss h = soon_after n (column ss false).slaves (soon_pass n ss false h)

-- Every slave is fourteen zeros from rest.
pub all_soon : (ss : List Slave) → AllSoon rest_zeros ss
all_soon [] = tt
all_soon (s ∷ ss) = (fourteen begun s.state, all_soon ss)
