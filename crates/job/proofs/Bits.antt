-- What is left of some bytes, one byte on; each byte of bytes that are not above a limit; rows of bits. Assumes nothing.
use mathlib.Core.Path.{◌≡◌, refl}
use mathlib.Core.Bool.{Bool, true, false, ◌&&◌, and-true, and_assoc}
use mathlib.Core.List.{List, [], ◌∷◌, map}
use Prim.Native.Nat.{ℕ, zero, suc, ◌+◌, ◌≤◌, ◌<◌}
use native.Mathlib.Numerals.{add-one}
use native.Mathlib.Omega.{arith}
use borrow.Author.Tests.{leb-true}
use lib.Dec.{leb}
use lib.ListN.{length, take, drop, get_or, drop_of_length-le}
use lib.Seq.{drop-cons}
use Rattle.protocol.specs.Bits.{num}
use Rattle.protocol.proofs.Text.{Bits}
use Rattle.laws.proofs.Every.{both}
use Rattle.job.specs.Bytes.{none_above, are_bits}

module _ (limit : ℕ) (bytes : List ℕ) (i : ℕ) (good : Bool) where
  -- What was found goes over the next byte to what is left behind it ..
  pub one_byte : i < length bytes
      → good && leb (get_or bytes i 0) limit && none_above limit (drop (i + 1) bytes) ≡ good && none_above limit (drop i bytes)
  unfolding none_above
  one_byte h = rw (and_assoc, add-one, drop-cons bytes i 0 h)

  -- .. and where none are left it is the result.
  pub no_byte : length bytes ≤ i → good && none_above limit (drop i bytes) ≡ good
  unfolding none_above
  no_byte h = rw (drop_of_length-le bytes h, and-true)

-- Where no byte is above a limit, none at any place is ..
pub byte_at : (limit : ℕ) (bytes : List ℕ) (i : ℕ) → none_above limit bytes ≡ true → get_or bytes i 0 ≤ limit
unfolding none_above
byte_at limit [] i e = omega arith
byte_at limit (b ∷ bytes) zero e = leb-true b limit (both (leb b limit) (none_above limit bytes) e).0
byte_at limit (b ∷ bytes) (suc i) e = byte_at limit bytes i (both (leb b limit) (none_above limit bytes) e).1

-- .. nor in a front part; so a row of bits is one in the words of protocol's texts; and the bytes of bits are such a row.
pub bits_take : (n : ℕ) (row : List ℕ) → are_bits row ≡ true → are_bits (take n row) ≡ true
unfolding are_bits none_above
bits_take zero row e = refl
bits_take (suc n) [] e = refl
bits_take (suc n) (b ∷ row) e =
    let parts = both (leb b 1) (none_above 1 row) e in rw parts.0 (bits_take n row parts.1)

pub all_bits : (row : List ℕ) → are_bits row ≡ true → Bits row
unfolding are_bits none_above
all_bits [] e = tt
all_bits (b ∷ row) e =
    let parts = both (leb b 1) (none_above 1 row) e in (omega (arith, leb-true b 1 parts.0), all_bits row parts.1)

pub num_bits : (bs : List Bool) → are_bits (map num bs) ≡ true
unfolding are_bits none_above
num_bits [] = refl
num_bits (true ∷ bs) = num_bits bs
num_bits (false ∷ bs) = num_bits bs
