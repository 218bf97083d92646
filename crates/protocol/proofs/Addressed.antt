-- A chain in a frame, told by place: every slave speaks in its turn, or one place is addressed and all others are deaf. Assumes nothing.
use mathlib.Core.Path.{◌≡◌, refl, fun_ext}
use mathlib.Core.Bool.{Bool, false, cond}
use mathlib.Core.List.{List, [], ◌∷◌}
use mathlib.Core.Option.{none, some, none-ne-some, some-injective}
use Prim.Native.Nat.{ℕ, zero, suc, ◌+◌, ◌≤◌, ◌<◌}
use native.Mathlib.Omega.{arith}
use borrow.Author.Tests.{eq-eqb, ne_eqb}
use lib.Dec.{eqb}
use lib.ListN.{length, set, get_elem?}
use Rattle.protocol.specs.Rest.{Timed, frame, timer, judge}
use Rattle.protocol.specs.Memory.{Memory}
use Rattle.protocol.specs.Slave.{Phase, deaf, turn, speak, step}
use Rattle.protocol.specs.Chain.{pass, column}
use Rattle.protocol.specs.Replay.{by_place}
use Rattle.laws.proofs.Every.{tested}
use Rattle.laws.proofs.Places.{outside}
use Rattle.protocol.proofs.Dress.{dress, pass_to, pass_dress, column_changed, column_dress}

-- The slaves in a frame, z zeros after the last 1.
abbrev pub framed : ℕ → (ℕ → Phase) → ℕ → Timed Phase
framed z f i = frame z (f i)

-- The slave at place id is addressed, the others are deaf.
unfoldable pub only : ℕ → Phase → ℕ → Phase
only id p i = cond (eqb i id) p deaf

-- At its own place and at any other.
only_here : (id i : ℕ) (p : Phase) → i ≡ id → only id p i ≡ p
unfolding only
only_here id i p e = rw (eq-eqb i id e)

only_other : (id i : ℕ) (p : Phase) → (i ≡ id → ⊥) → only id p i ≡ deaf
unfolding only
only_other id i p e = rw (ne_eqb i id e)

-- A slave that goes deaf is as the others.
pub only_deaf : (id : ℕ) → only id deaf ≡ (λ i. deaf)
unfolding only
only_deaf id = fun_ext (λ i. tested (eqb i id) (λ q. rw q) (λ q. rw q))

module _ (z z' : ℕ) (m : Bool) (t : timer z m ≡ some z') where
  -- β i is the bit that arrives at place i.
  pub column_turns : (f g : ℕ → Phase) (β : ℕ → Bool) → β 0 ≡ false
      → ((k : Memory) (i : ℕ) → speak k (f i) m (β i) ≡ turn (g i) (β (suc i)) k)
      → (ks : List Memory) → column (dress (framed z f) 0 ks) m ≡ pass_to (dress (framed z' g) 0 ks) (β (length ks))
  unfolding step judge
  column_turns f g β e h ks = column_dress (framed z f) (framed z' g) β m e (λ k i. rw (t, h k i)) ks

  -- .. and `change` what the column makes of the memory there.
  pub column_changes : (f g : ℕ → Phase) (β : ℕ → Bool) (change : ℕ → Memory → Memory) → β 0 ≡ false
      → ((k : Memory) (i : ℕ) → speak k (f i) m (β i) ≡ turn (g i) (β (suc i)) (change i k))
      → (ks : List Memory) → column (dress (framed z f) 0 ks) m ≡ pass_to (dress (framed z' g) 0 (by_place change 0 ks)) (β (length ks))
  unfolding step judge
  column_changes f g β change e h ks = column_changed (framed z f) (framed z' g) β change m e (λ k i. rw (t, h k i)) ks

  pass_deaf : (ks : List Memory) (i : ℕ) (b : Bool)
      → pass (dress (framed z (λ j. deaf)) i ks) m b ≡ pass_to (dress (framed z' (λ j. deaf)) i ks) b
  unfolding step judge speak
  pass_deaf ks i b = pass_dress (framed z (λ j. deaf)) (framed z' (λ j. deaf)) (λ j. b) m (λ k j. rw t) ks i

-- Where the addressed place lies outside a stretch of the chain, the stretch is deaf.
dress_only : (z id : ℕ) (p : Phase) (ks : List Memory) (i : ℕ) → ((j : ℕ) → i ≤ j → j < i + length ks → j ≡ id → ⊥)
    → dress (framed z (only id p)) i ks ≡ dress (framed z (λ j. deaf)) i ks
unfolding dress
dress_only z id p [] i h = refl
dress_only z id p (k ∷ ks) i h =
    rw (only_other id i p (h i (omega arith) (omega arith)), dress_only z id p ks (suc i) (λ j l u. h j (omega arith) (omega arith)))

module _ (z z' : ℕ) (m : Bool) (t : timer z m ≡ some z') (id : ℕ) (p : Phase) where
  -- Nobody at the addressed place: nobody speaks.
  pub column_nobody : (ks : List Memory) → get_elem? ks id ≡ none
      → column (dress (framed z (only id p)) 0 ks) m ≡ pass_to (dress (framed z' (λ j. deaf)) 0 ks) false
  column_nobody ks e = rw (dress_only z id p ks 0 (λ j l u q. omega (arith, outside ks id e))) (pass_deaf z z' m t ks 0 false)

  module _ (k : Memory) (p' : Phase) (x : Bool) (k' : Memory) (h : (b : Bool) → speak k p m b ≡ turn p' x k') where
    pass_one : (ks : List Memory) (d i : ℕ) (b : Bool) → i + d ≡ id → get_elem? ks d ≡ some k
        → pass (dress (framed z (only id p)) i ks) m b ≡ pass_to (dress (framed z' (only id p')) i (set ks d k')) x
    unfolding pass dress step judge speak
    pass_one [] d i b e g = absurd (none-ne-some _ g)
    pass_one (l ∷ ks) zero i b e g =
        let own : l ≡ k = some-injective l k g in
        let here : i ≡ id = omega arith in
        rw (
          only_here id i p here,
          only_here id i p' here,
          dress_only z id p ks (suc i) (λ j n u q. omega arith),
          dress_only z' id p' ks (suc i) (λ j n u q. omega arith),
          own,
          t,
          h b,
          pass_deaf z z' m t ks (suc i) x,
        )
    pass_one (l ∷ ks) (suc d) i b e g =
        let other : i ≡ id → ⊥ = λ q. omega arith in
        rw (only_other id i p other, only_other id i p' other, t, pass_one ks d (suc i) b (omega arith) g)

    -- The addressed slave speaks, whatever it hears.
    pub column_one : (ks : List Memory) → get_elem? ks id ≡ some k
        → column (dress (framed z (only id p)) 0 ks) m ≡ pass_to (dress (framed z' (only id p')) 0 (set ks id k')) x
    column_one ks g = pass_one ks id 0 false (omega arith) g
