-- Bytes laid into a lent buffer, one part after the other: stores add up, and what was laid from the start is the result with the
-- rest of the buffer behind it. Assumes nothing.
use mathlib.Core.Path.{◌≡◌}
use mathlib.Core.List.{List, [], ◌∷◌, ◌++◌}
use Prim.Native.Nat.{ℕ, suc, ◌+◌, ◌≤◌}
use native.Mathlib.Nat.{add-zero, zero-add, add-suc, suc-add}
use lib.ListN.{length, drop, set}
use lib.Seq.{sets, sets-eq}

pub sets_append : (l : List ℕ) (at : ℕ) (vs ws : List ℕ) → sets l at (vs ++ ws) ≡ sets (sets l at vs) (at + length vs) ws
sets_append l at [] ws = rw add-zero
sets_append l at (v ∷ vs) ws = rw (sets_append (set l at v) (suc at) vs ws, suc-add, add-suc)

pub sets_first : (l vs : List ℕ) → length vs ≤ length l → sets l 0 vs ≡ vs ++ drop (length vs) l
sets_first l vs h = rw (zero-add (length vs)) at (sets-eq vs l 0 (rw (zero-add (length vs)) h))
