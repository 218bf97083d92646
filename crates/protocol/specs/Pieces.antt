-- Numbers as bytes, and a list cut into pieces of one width: nothing here knows of entries.
use Rattle.std.specs.Prelude.{Bool, List, [], ◌∷◌, ◌++◌, ℕ, zero, suc, ◌+◌, ◌*◌, ◌/◌, ◌%◌, ◌^◌, eqb, length, take, drop, get_or}

-- "high first": a number in so many bytes.
unfoldable pub in_bytes : (width n : ℕ) → List ℕ
in_bytes zero n = []
in_bytes (suc zero) n = n ∷ []
in_bytes (suc (suc w)) n = n / 256 ^ suc w ∷ in_bytes (suc w) (n % 256 ^ suc w)

-- The number that so many bytes at place i of a list are.
unfoldable pub number_at : (width i : ℕ) → List ℕ → ℕ
number_at zero i l = 0
number_at (suc zero) i l = get_or l i 0
number_at (suc (suc w)) i l = get_or l i 0 * 256 ^ suc w + number_at (suc w) (i + 1) l

-- The first n pieces of a list ..
unfoldable pub cut : (n width : ℕ) → List ℕ → List (List ℕ)
cut zero w l = []
cut (suc n) w l = take w l ∷ cut n w (drop w l)

-- .. and all that are whole.
unfoldable pub pieces : (width : ℕ) → List ℕ → List (List ℕ)
pieces w l = cut (length l / w) w l

-- A list's length is a multiple of the width.
unfoldable pub is_whole : (width : ℕ) → List ℕ → Bool
is_whole w l = eqb (length l % w) 0

-- Pieces one after another.
unfoldable pub joined : List (List ℕ) → List ℕ
joined [] = []
joined (p ∷ ps) = p ++ joined ps
