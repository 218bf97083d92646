-- The table of banks, one slave on, and the bytes of those that are left. Assumes nothing.
use mathlib.Core.Path.{◌≡◌, refl, ap, ◌∙◌}
use mathlib.Core.List.{List, [], ◌∷◌}
use Prim.Native.Nat.{ℕ, ◌+◌, ◌≤◌, ◌<◌}
use native.Mathlib.Numerals.{add-one}
use native.Mathlib.Omega.{arith}
use lib.ListN.{length, drop, get_or, drop_of_length-le}
use lib.Seq.{drop-cons}
use Rattle.std.specs.List.{sum_by}
use Rattle.std.proofs.lemmas.List.Sums.{sum_by-cons}
use Rattle.run.specs.Run.{size_of, sizes}

module _ (table : List ℕ) (i : ℕ) where
  pub left_next : i < length table → drop i table ≡ get_or table i 0 ∷ drop (i + 1) table
  left_next h = rw (add-one i) (drop-cons table i 0 h)

  pub sizes_next : i < length table → sizes (drop i table) ≡ size_of (get_or table i 0) + sizes (drop (i + 1) table)
  unfolding sizes
  sizes_next h = rw (left_next h)

  pub sizes_none : length table ≤ i → sizes (drop i table) ≡ 0
  unfolding sizes
  sizes_none h = rw (drop_of_length-le table h)

  -- The bytes of the slave at place i lie before those of the others.
  pub room : (at size n : ℕ) → i < length table → size ≡ size_of (get_or table i 0) → at + sizes (drop i table) ≡ n → at + size ≤ n
  room at size n h e left = omega (arith, sizes_next h)

-- The bytes of a table, as std sums them.
pub sizes_summed : (table : List ℕ) → sum_by size_of table ≡ sizes table
unfolding sizes
sizes_summed [] = refl
sizes_summed (b ∷ table) = sum_by-cons size_of b table ∙ ap (λ (n : ℕ). size_of b + n) (sizes_summed table)
