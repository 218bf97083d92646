-- Reads and writes as one frame; and no built frame holds fourteen zeros in a row, so nobody comes to rest in one: no header does, by a
-- test of every word, and in a byte only thirteen columns follow S. Assumes nothing.
use mathlib.Core.Path.{◌≡◌, refl, ap}
use mathlib.Core.Bool.{Bool, true, false, not, ◌&&◌, ◌||◌, and_assoc, false≢true}
use mathlib.Core.List.{List, [], ◌∷◌, ◌++◌, map, append_assoc}
use Prim.Native.Nat.{ℕ, zero, suc, ◌+◌, ◌-◌, ◌^◌, ◌<◌}
use native.Mathlib.Omega.{arith}
use borrow.Author.Tests.{lt-ltb, ltb-true}
use lib.Dec.{ltb}
use lib.ListN.{length, length-append, replicate, length-replicate}
use lib.Seq.{append_snoc}
use Rattle.protocol.specs.Limits.{rest_zeros, id_count, address_count}
use Rattle.protocol.specs.Bits.{bit, bits}
use Rattle.protocol.specs.Division.{header_bits, data_bits, check_width, top_bit, divide_bit, divide, remainder, check, word}
use Rattle.protocol.specs.Header.{access_word, command_word}
use Rattle.protocol.specs.Commands.{execute_column}
use Rattle.protocol.specs.Building.{Request, frame_head, byte_columns, read_bits, write_bits, command_columns, frame_of}
use Rattle.protocol.specs.Building
use Rattle.laws.proofs.Table.{below}
use Rattle.laws.proofs.Every.{tested}
use Rattle.protocol.proofs.Division.{check_lt}
use Rattle.protocol.proofs.Words.{bits_append, length_bits}
use Rattle.protocol.proofs.Commands.{execute_early}

-- A read of as many bytes as the list has, or a write of the list; a byte's twelve bits; the columns of its bytes; its frame.
abbrev pub asking : (write : Bool) → (id address : ℕ) → List ℕ → (wait : ℕ) → Request
asking false id address vs wait = Building.read id address (length vs) wait
asking true id address vs wait = Building.write id address vs wait

abbrev pub twelve_of : (write : Bool) → ℕ → List Bool
twelve_of false v = read_bits
twelve_of true v = write_bits v

abbrev pub carrying : (write : Bool) → (wait nth : ℕ) → List ℕ → List Bool
carrying write wait nth vs = byte_columns write wait nth (map (twelve_of write) vs)

all_zeros : (vs : List ℕ) → replicate (length vs) read_bits ≡ map (twelve_of false) vs
all_zeros [] = refl
all_zeros (v ∷ vs) = ap (λ (l : List (List Bool)). read_bits ∷ l) (all_zeros vs)

pub frame_asking : (write : Bool) (id address : ℕ) (vs : List ℕ) (wait : ℕ)
    → frame_of (asking write id address vs wait) ≡ frame_head (access_word id address) ++ not write ∷ write ∷ carrying write wait 1 vs
unfolding frame_of
frame_asking false id address vs wait = rw (all_zeros vs)
frame_asking true id address vs wait = refl

-- With z zeros in a row before it, the row brings no fourteenth.
unfoldable pub calm : ℕ → List Bool → Bool
calm z [] = true
calm z (true ∷ ms) = calm 0 ms
calm z (false ∷ ms) = ltb (z + 1) rest_zeros && calm (z + 1) ms

-- The zeros in a row at its end.
unfoldable pub trailing : ℕ → List Bool → ℕ
trailing z [] = z
trailing z (true ∷ ms) = trailing 0 ms
trailing z (false ∷ ms) = trailing (z + 1) ms

pub calm_append : (z : ℕ) (xs ys : List Bool) → calm z (xs ++ ys) ≡ (calm z xs && calm (trailing z xs) ys)
unfolding calm trailing
calm_append z [] ys = refl
calm_append z (true ∷ xs) ys = calm_append 0 xs ys
calm_append z (false ∷ xs) ys = rw (calm_append (z + 1) xs ys, and_assoc)

-- Too few columns for fourteen.
calm_short : (z : ℕ) (ms : List Bool) → z + length ms < rest_zeros → calm z ms ≡ true
unfolding calm
calm_short z [] h = refl
calm_short z (true ∷ ms) h = calm_short 0 ms (omega arith)
calm_short z (false ∷ ms) h = rw (lt-ltb (z + 1) rest_zeros (omega arith)) (calm_short (z + 1) ms (omega arith))

-- However often S, a 1, comes before.
calm_ones : (z n : ℕ) (ms : List Bool) → calm z (replicate n true ++ true ∷ ms) ≡ calm 0 ms
unfolding calm
calm_ones z zero ms = refl
calm_ones z (suc n) ms = calm_ones 0 n ms

length_twelve : (write : Bool) (v : ℕ) → length (twelve_of write v) ≡ top_bit + 1
length_twelve false v = refl
length_twelve true v = length_bits (top_bit + 1) (word data_bits v)

-- A byte's last S is a 1, and thirteen columns follow it.
carrying_calm : (write : Bool) (wait nth z : ℕ) (vs : List ℕ) → calm z (carrying write wait nth vs) ≡ true
unfolding calm byte_columns
carrying_calm write wait nth z [] = refl
carrying_calm write wait nth z (v ∷ vs) =
    let bs : List Bool = twelve_of write v in
    let short : length (bs ++ false ∷ []) < rest_zeros = rw (length-append, length_twelve write v) (omega arith) in
    rw (calm_ones, ← append_snoc bs false, calm_append, calm_short 0 (bs ++ false ∷ []) (omega arith))
    (carrying_calm write wait (nth + 1) _ vs)

-- A header and a zero more, which is R of a write. Its check bits are worked out only where nine zeros or more stand before them.
tried : ℕ → Bool
tried v = ltb (trailing 0 (bits header_bits v) + check_width + 1) rest_zeros || calm 0 (frame_head v ++ false ∷ [])

all_tried : (v : ℕ) → v < 2 ^ header_bits → tried v ≡ true
unfolding tried calm trailing bits bit word check remainder divide divide_bit
all_tried v h = below (2 ^ header_bits) tried refl v h

header_and_zero : (v : ℕ) → v < 2 ^ header_bits → calm 0 (frame_head v ++ false ∷ []) ≡ true
unfolding tried calm word
header_and_zero v h =
    let bs : List Bool = bits header_bits v in
    let cs : List Bool = bits check_width (check header_bits v) in
    tested (ltb (trailing 0 bs + check_width + 1) rest_zeros)
    (λ q. let short : trailing 0 bs + length (cs ++ false ∷ []) < rest_zeros
    = rw (length-append, length_bits) (omega (arith, ltb-true)) in
    rw (bits_append header_bits check_width v (check_lt header_bits v), append_assoc, calm_append 0 bs (cs ++ false ∷ []))
    (rw (calm_short 0 bs (omega (arith, length_bits header_bits v)), calm_short (trailing 0 bs) (cs ++ false ∷ []) short)))
    (λ q. rw q at (all_tried v h))

pub header_calm : (v : ℕ) → v < 2 ^ header_bits → calm 0 (frame_head v) ≡ true
header_calm v h =
    tested (calm 0 (frame_head v)) (λ q. q)
    (λ q. absurd (false≢true (rw (calm_append, q) at (header_and_zero v h))))

-- So the frame of a command holds no fourteen zeros: at most eight columns follow its S ..
pub command_calm : (ids cmd : ℕ) (execute : Bool) → command_word ids cmd < 2 ^ header_bits
    → calm 0 (frame_head (command_word ids cmd) ++ command_columns ids execute) ≡ true
unfolding calm
command_calm ids cmd execute h =
    rw (calm_append, header_calm (command_word ids cmd) h)
    (calm_short 0 (replicate (execute_column ids - 1) false ++ execute ∷ [])
    (rw (length-append, length-replicate) (omega (arith, execute_early ids))))

-- .. and neither does that of a read or a write.
pub access_calm : (write : Bool) (id address : ℕ) (vs : List ℕ) (wait : ℕ) → id < id_count → address < address_count
    → calm 0 (frame_of (asking write id address vs wait)) ≡ true
unfolding calm
access_calm false id address vs wait h k =
    rw (frame_asking false id address vs wait, calm_append, header_calm (access_word id address) (omega arith))
    (carrying_calm false wait 1 1 vs)
access_calm true id address vs wait h k =
    let v : ℕ = access_word id address in
    rw (frame_asking true id address vs wait, ← append_snoc (frame_head v) false, calm_append, header_and_zero v (omega arith))
    (carrying_calm true wait 1 0 vs)
