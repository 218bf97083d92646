-- A chain told by place: every slave's state as a function of its place, far slave first. What one column does to such a chain
-- follows from what it does to one slave, where the bit that arrives at each place is known. Assumes nothing.
use mathlib.Core.Path.{◌≡◌, refl, ap}
use mathlib.Core.Bool.{Bool, false}
use mathlib.Core.List.{List, [], ◌∷◌}
use Prim.Native.Nat.{ℕ, suc, ◌+◌}
use native.Mathlib.Nat.{add-zero, zero-add, add-suc, suc-add}
use lib.ListN.{length}
use Rattle.protocol.specs.Rest.{Timed, power}
use Rattle.protocol.specs.Memory.{Memory}
use Rattle.protocol.specs.Slave.{Slave, Step, Phase, reply, slave, step}
use Rattle.protocol.specs.Chain.{Passed, pass, column, switched_on, memories}
use Rattle.protocol.specs.Replay.{by_place}

-- The chain over memories ks, the first of them at place i, in which the slave at each place is in that place's state.
unfoldable pub dress : (ℕ → Timed Phase) → ℕ → List Memory → List Slave
dress f i [] = []
dress f i (k ∷ ks) = slave k (f i) ∷ dress f (suc i) ks

abbrev pub step_to : Memory → Timed Phase → Bool → Step
step_to k s b = record { state = s; says = reply b k }

abbrev pub pass_to : List Slave → Bool → Passed
pass_to ss b = record { slaves = ss; answer = b }

-- β i is the bit that arrives at place i, and `change` what the column makes of the memory there.
pub pass_changed : (f g : ℕ → Timed Phase) (β : ℕ → Bool) (change : ℕ → Memory → Memory) (m : Bool)
    → ((k : Memory) (i : ℕ) → step (slave k (f i)) m (β i) ≡ step_to (change i k) (g i) (β (suc i)))
    → (ks : List Memory) (i : ℕ) → pass (dress f i ks) m (β i) ≡ pass_to (dress g i (by_place change i ks)) (β (i + length ks))
unfolding pass dress by_place
pass_changed f g β change m h [] i = rw add-zero
pass_changed f g β change m h (k ∷ ks) i = rw (h k i, pass_changed f g β change m h ks (suc i), suc-add, add-suc)

-- Where no memory changes.
unchanged : (i : ℕ) (ks : List Memory) → by_place (λ j k. k) i ks ≡ ks
unfolding by_place
unchanged i [] = refl
unchanged i (k ∷ ks) = ap (λ (l : List Memory). k ∷ l) (unchanged (suc i) ks)

pub pass_dress : (f g : ℕ → Timed Phase) (β : ℕ → Bool) (m : Bool)
    → ((k : Memory) (i : ℕ) → step (slave k (f i)) m (β i) ≡ step_to k (g i) (β (suc i)))
    → (ks : List Memory) (i : ℕ) → pass (dress f i ks) m (β i) ≡ pass_to (dress g i ks) (β (i + length ks))
pass_dress f g β m h ks i = rw (unchanged i ks) at (pass_changed f g β (λ j k. k) m h ks i)

-- At the far end the bit enters as 0.
pub column_changed : (f g : ℕ → Timed Phase) (β : ℕ → Bool) (change : ℕ → Memory → Memory) (m : Bool) → β 0 ≡ false
    → ((k : Memory) (i : ℕ) → step (slave k (f i)) m (β i) ≡ step_to (change i k) (g i) (β (suc i)))
    → (ks : List Memory) → column (dress f 0 ks) m ≡ pass_to (dress g 0 (by_place change 0 ks)) (β (length ks))
column_changed f g β change m e h ks = rw (e, zero-add) at (pass_changed f g β change m h ks 0)

pub column_dress : (f g : ℕ → Timed Phase) (β : ℕ → Bool) (m : Bool) → β 0 ≡ false
    → ((k : Memory) (i : ℕ) → step (slave k (f i)) m (β i) ≡ step_to k (g i) (β (suc i)))
    → (ks : List Memory) → column (dress f 0 ks) m ≡ pass_to (dress g 0 ks) (β (length ks))
column_dress f g β m e h ks = rw (e, zero-add) at (pass_dress f g β m h ks 0)

pub memories_dress : (f : ℕ → Timed Phase) (i : ℕ) (ks : List Memory) → memories (dress f i ks) ≡ ks
unfolding dress
memories_dress f i [] = refl
memories_dress f i (k ∷ ks) = ap (λ (l : List Memory). k ∷ l) (memories_dress f (suc i) ks)

-- At power-on every place is alike.
pub switched_on_dress : (i : ℕ) (ks : List Memory) → switched_on ks ≡ dress (λ j. power 0) i ks
unfolding switched_on dress
switched_on_dress i [] = refl
switched_on_dress i (k ∷ ks) = ap (λ (l : List Slave). slave k (power 0) ∷ l) (switched_on_dress (suc i) ks)
