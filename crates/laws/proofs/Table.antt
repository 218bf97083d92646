-- A function tabulated. A table of numbers is its rule tabulated, and a test that passes at all numbers below a bound tabulates to
-- `true` throughout: antt computes the one list and compares it with the other. Assumes nothing.
use mathlib.Core.Path.{◌≡◌, sym, ap, ◌∙◌}
use mathlib.Core.Bool.{Bool, true, false}
use mathlib.Core.List.{List, [], ◌∷◌}
use Prim.Native.Nat.{ℕ, zero, suc, ◌+◌, ◌<◌}
use native.Mathlib.Nat.{add-zero, zero-add, add-suc, suc-add, le_of_suc-le-suc, not-suc-le-zero}
use lib.ListN.{get_or, replicate, get_or-replicate}

module _ {A : Type 0} (f : ℕ → A) where
  -- f at n numbers, the first of them i.
  abbrev pub tabulate : (i n : ℕ) → List A
  tabulate i zero = []
  tabulate i (suc n) = f i ∷ tabulate (suc i) n

  entry : (d : A) (i n k : ℕ) → k < n → get_or (tabulate i n) k d ≡ f (i + k)
  entry d i zero k h = absurd (not-suc-le-zero h)
  entry d i (suc n) zero h = rw add-zero
  entry d i (suc n) (suc k) h = rw (add-suc, ← suc-add i k) (entry d (suc i) n k (le_of_suc-le-suc h))

  pub tabulated : (d : A) (n k : ℕ) → k < n → get_or (tabulate 0 n) k d ≡ f k
  tabulated d n k h = rw zero-add at (entry d 0 n k h)

-- What a test says of every number below n.
pub below : (n : ℕ) (f : ℕ → Bool) → tabulate f 0 n ≡ replicate n true → (k : ℕ) → k < n → f k ≡ true
below n f e k h =
    sym (tabulated f false n k h) ∙ ap (λ (l : List Bool). get_or l k false) e ∙ get_or-replicate n k true false h
