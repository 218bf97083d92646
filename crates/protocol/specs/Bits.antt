-- Bits and the numbers that they make. Paper 01, Header: "Highest bit first."
use Rattle.std.specs.Prelude.{Bool, true, false, List, [], ◌∷◌, map, ℕ, zero, suc, ◌+◌, ◌*◌, ◌/◌, ◌%◌, ◌^◌, eqb}

-- Columns: "A row holds one byte per column, 0 or 1."
abbrev pub num : Bool → ℕ
num true = 1
num false = 0

-- .. and back: the bit of a row's byte.
abbrev pub bit_of : ℕ → Bool
bit_of byte = eqb byte 1

-- A row of bytes as a row of bits.
unfoldable pub row_of : List ℕ → List Bool
row_of bytes = map bit_of bytes

-- The bit of v that has n bits below it.
unfoldable pub bit : ℕ → ℕ → Bool
bit n v = bit_of (v / 2 ^ n % 2)

-- The lowest n bits of v, highest first.
unfoldable pub bits : ℕ → ℕ → List Bool
bits zero v = []
bits (suc n) v = bit n v ∷ bits n v

-- A machine collects bits as they come, the newest lowest, and keeps the last sixteen: nothing that the paper collects is longer
-- (proofs/Words: push_keeps).
unfoldable pub push : ℕ → Bool → ℕ
push w b = (2 * w + num b) % 2 ^ 16
