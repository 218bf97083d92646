-- Words: nothing collected is cut, and the header of a built word is what was asked for. Assumes nothing.
use mathlib.Core.Path.{◌≡◌, refl, sym, ap, ap₂, ◌∙◌}
use mathlib.Core.Bool.{Bool, true, false}
use mathlib.Core.List.{List, ◌∷◌, ◌++◌}
use Prim.Native.Nat.{ℕ, zero, suc, ◌+◌, ◌*◌, ◌/◌, ◌%◌, ◌^◌, ◌<◌}
use native.Mathlib.Nat.{zero-add, suc-add, mod-eq_of_lt}
use native.Mathlib.Numerals.{add-one}
use native.Mathlib.Omega.{arith}
use lib.ListN.{length}
use lib.Pow.{high, low, shr-shr, shr_le}
use Rattle.protocol.specs.Limits.{id_count}
use Rattle.protocol.specs.Bits.{num, bit_of, bit, bits, push}
use Rattle.protocol.specs.Division.{header_bits, data_bits, check_width, word, fits, byte_of}
use Rattle.protocol.specs.Header.{Header, wrong, access, command, header, access_word, command_word}
use Rattle.protocol.proofs.Division.{bit_above, bit_same, under, check_lt, accepted}
use Rattle.laws.proofs.Every.{either}

pub num_lt : (b : Bool) → num b < 2
num_lt true = omega arith
num_lt false = omega arith

-- A bit more after at most fifteen: nothing falls out.
pub push_keeps : (w : ℕ) (b : Bool) → w < 2 ^ 15 → push w b ≡ 2 * w + num b
unfolding push
push_keeps w b h = mod-eq_of_lt (omega (arith, num_lt b))

-- The lowest n bits look at nothing above them ..
pub bits_low : (n u v : ℕ) → u % 2 ^ n ≡ v % 2 ^ n → bits n u ≡ bits n v
unfolding bits
bits_low zero u v e = refl
bits_low (suc n) u v e =
    ap₂ (λ (b : Bool) (bs : List Bool). b ∷ bs) (bit_same n u v e)
    (bits_low n u v (sym (under n u) ∙ ap (λ (x : ℕ). x % 2 ^ n) e ∙ under n v))

-- .. so a word's bits are those of its upper and its lower part.
pub bits_append : (n m v : ℕ) {c : ℕ} → c < 2 ^ m → bits (n + m) (v * 2 ^ m + c) ≡ bits n v ++ bits m c
unfolding bits
bits_append zero m v {c} h = rw (zero-add m) (bits_low m (v * 2 ^ m + c) c (low v m h ∙ sym (mod-eq_of_lt h)))
bits_append (suc n) m v h = rw (suc-add n m, bit_above n m v h, bits_append n m v h)

pub length_bits : (n v : ℕ) → length (bits n v) ≡ n
unfolding bits
length_bits zero v = refl
length_bits (suc n) v = ap suc (length_bits n v)

-- A word's bits above its check bits are those it was made of.
pub above_check : (n v : ℕ) → word n v / 2 ^ check_width ≡ v
unfolding word
above_check n v = high v check_width (check_lt n v)

-- A built register access is read back as it was asked for ..
pub header_access : (id address : ℕ) → id < 2 ^ 3 → address < 2 ^ 7
    → header (word header_bits (access_word id address)) ≡ access id address
unfolding header bit
header_access id address h k =
    let v : ℕ = access_word id address in
    let cts : v / 2 ^ 10 % 2 ≡ 1 = omega arith in
    let i : v / 2 ^ 7 % 2 ^ 3 ≡ id = omega arith in
    let a : v % 2 ^ 7 ≡ address = omega arith in
    rw (accepted header_bits v, above_check header_bits v, cts, i, a)

-- .. and so is a command.
pub header_command : (ids cmd : ℕ) → ids < 2 ^ 8 → cmd < 2 ^ 2
    → header (word header_bits (command_word ids cmd)) ≡ command ids cmd
unfolding header bit
header_command ids cmd h k =
    let v : ℕ = command_word ids cmd in
    let cts : v / 2 ^ 10 % 2 ≡ 0 = omega arith in
    let s : v / 2 ^ 2 % 2 ^ 8 ≡ ids = omega arith in
    let c : v % 2 ^ 2 ≡ cmd = omega arith in
    rw (accepted header_bits v, above_check header_bits v, cts, s, c)

-- A word with its check bits has four bits more ..
pub word_lt : (n v : ℕ) → v < 2 ^ n → word n v < 2 ^ n * 2 ^ check_width
unfolding word
word_lt n v h = omega (arith, check_lt n v)

-- .. and a byte with its check bits is that byte.
pub byte_word : (v : ℕ) → v < 2 ^ data_bits → byte_of (word data_bits v) ≡ v
unfolding byte_of
byte_word v h = rw (above_check data_bits v) (mod-eq_of_lt h)

pub byte_lt : (w : ℕ) → byte_of w < 2 ^ data_bits
unfolding byte_of
byte_lt w = omega arith

-- The bits of w collected as they come, highest first: all above the last n and then the next are all above the last n - 1.
num_bit_of : (r : ℕ) → r < 2 → num (bit_of r) ≡ r
num_bit_of zero h = refl
num_bit_of (suc zero) h = refl
num_bit_of (suc (suc r)) h = absurd (omega arith)

pub num_bit : (n w : ℕ) → num (bit n w) ≡ w / 2 ^ n % 2
unfolding bit
num_bit n w = num_bit_of (w / 2 ^ n % 2) (omega arith)

pub push_bit : (n w : ℕ) → w < 2 ^ 16 → push (w / 2 ^ suc n) (bit n w) ≡ w / 2 ^ n
unfolding bit
push_bit n w h =
    let u : ℕ = w / 2 ^ n in
    let half : w / 2 ^ suc n ≡ u / 2 = rw (← add-one n) (sym (shr-shr w n 1)) in
    let small : u < 2 ^ 16 = omega (arith, shr_le w n) in
    rw (half, push_keeps (u / 2) (bit_of (u % 2)) (omega arith), num_bit_of (u % 2) (omega arith)) (omega arith)

-- The ID of an access is one of eight.
abbrev pub LowId : Header → Type 0
LowId wrong = Unit {0}
LowId (access id address) = id < id_count
LowId (command ids cmd) = Unit {0}

pub header_low : (w : ℕ) → LowId (header w)
unfolding header
header_low w =
    let v : ℕ = w / 2 ^ check_width in
    either LowId (fits header_bits w) (either LowId (bit 10 v) (omega arith) tt) tt
