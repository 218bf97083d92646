-- Numbers in bytes and pieces of one width, whatever the width: a number is read back, a list is its first piece and the rest.
-- Assumes nothing.
use mathlib.Core.Path.{◌≡◌, refl, ap, ap₂, ◌∙◌}
use mathlib.Core.List.{List, [], ◌∷◌, ◌++◌}
use Prim.Native.Nat.{ℕ, zero, suc, ◌+◌, ◌*◌, ◌/◌, ◌%◌, ◌^◌, ◌≤◌, ◌<◌}
use native.Mathlib.Nat.{add_assoc, div-add-mod', div-eq-sub-div, div-eq_of_lt, mod-eq-sub-mod, mod-eq_of_lt}
use native.Mathlib.Numerals.{add-one}
use native.Mathlib.Omega.{arith}
use lib.Dec.{eqb}
use lib.ListN.{length, take, drop, length-drop}
use lib.Seq.{get_or-append-add, get_or-take, get_or-drop}
use Rattle.protocol.specs.Pieces.{in_bytes, number_at, cut, pieces, is_whole}

pub bytes_length : (w n : ℕ) → length (in_bytes w n) ≡ w
unfolding in_bytes
bytes_length zero n = refl
bytes_length (suc zero) n = refl
bytes_length (suc (suc w)) n = ap suc (bytes_length (suc w) (n % 256 ^ suc w))

-- Behind other bytes, in its own bytes, and in a part of a list.
pub number_behind : (w i : ℕ) (front l : List ℕ) → number_at w (length front + i) (front ++ l) ≡ number_at w i l
unfolding number_at
number_behind zero i front l = refl
number_behind (suc zero) i front l = get_or-append-add front l i 0
number_behind (suc (suc w)) i front l =
    rw (get_or-append-add front l i 0, add_assoc (length front) i 1, number_behind (suc w) (i + 1) front l)

pub number_back : (w n : ℕ) (rest : List ℕ) → 0 < w → number_at w 0 (in_bytes w n ++ rest) ≡ n
unfolding number_at in_bytes
number_back zero n rest h = absurd (omega arith)
number_back (suc zero) n rest h = refl
number_back (suc (suc w)) n rest h =
    let power : ℕ = 256 ^ suc w in
    ap (λ (k : ℕ). n / power * power + k)
    (number_behind (suc w) 0 (n / power ∷ []) (in_bytes (suc w) (n % power) ++ rest) ∙ number_back (suc w) (n % power) rest (omega arith))
    ∙ div-add-mod' n power

pub number_part : (w i n at : ℕ) (l : List ℕ) → i + w ≤ n → number_at w i (take n (drop at l)) ≡ number_at w (at + i) l
unfolding number_at
number_part zero i n at l h = refl
number_part (suc zero) i n at l h = get_or-take n (drop at l) i 0 (omega arith) ∙ get_or-drop at l i 0
number_part (suc (suc w)) i n at l h =
    rw (add_assoc at i 1)
    (ap₂ (λ (b k : ℕ). b * 256 ^ suc w + k) (get_or-take n (drop at l) i 0 (omega arith) ∙ get_or-drop at l i 0)
    (number_part (suc w) (i + 1) n at l (omega arith)))

-- A list as long as the width is a piece and what is behind it; a shorter one has none.
module _ (w : ℕ) (l : List ℕ) where
  pub pieces_more : 0 < w → w ≤ length l → pieces w l ≡ take w l ∷ pieces w (drop w l)
  unfolding pieces cut
  pieces_more h k = rw (div-eq-sub-div h k, length-drop, add-one)

  pub pieces_none : length l < w → pieces w l ≡ []
  unfolding pieces cut
  pieces_none k = rw (div-eq_of_lt k)

  pub whole_more : w ≤ length l → is_whole w l ≡ is_whole w (drop w l)
  unfolding is_whole
  whole_more k = rw (mod-eq-sub-mod k, length-drop)

  pub whole_few : length l < w → is_whole w l ≡ eqb (length l) 0
  unfolding is_whole
  whole_few k = rw (mod-eq_of_lt k)
