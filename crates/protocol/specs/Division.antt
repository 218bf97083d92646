-- Check bits: division by a polynomial, one bit and then the rest; the control line's own check; a word with its check bits.
use Rattle.std.specs.Prelude.{Bool, cond, ℕ, zero, suc, ◌+◌, ◌-◌, ◌*◌, ◌/◌, ◌%◌, ◌^◌, ltb, eqb}
use Rattle.std.specs.Int.Bits.{bit_xor}
use Rattle.protocol.specs.Bits.{num, bit}

-- One bit x into the remainder r, which has `width` bits: the word one place up, x added to its leading bit, and where that bit is
-- then 1 the polynomial goes into it once.
unfoldable pub divide_bit : (width polynomial : ℕ) → ℕ → Bool → ℕ
divide_bit width polynomial r x =
    let t : ℕ = (2 * r + num x * 2 ^ width) % (2 * 2 ^ width) in cond (ltb t (2 ^ width)) t (bit_xor t polynomial)

-- The remainder after the lowest n bits of v, highest first, from the start value r: take one bit and then the rest.
unfoldable pub divide : (width polynomial : ℕ) → ℕ → ℕ → ℕ → ℕ
divide width polynomial zero v r = r
divide width polynomial (suc n) v r = divide width polynomial n v (divide_bit width polynomial r (bit n v))

-- Check bits: "House rule: the header's check covers the eleven bits from CTS on."
abbrev pub header_bits : ℕ
header_bits = 11

-- Check bits: "A data byte's check covers its eight bits only (000)."
abbrev pub data_bits : ℕ
data_bits = 8

-- Header, Byte: "four check bits".
abbrev pub check_width : ℕ
check_width = 4

-- Check bits: "Polynomial 0x13, start value 0".
abbrev pub polynomial : ℕ
polynomial = 0x13

-- The remainder of the n bits of v, from start value 0.
unfoldable pub remainder : ℕ → ℕ → ℕ
remainder n v = divide check_width polynomial n v 0

-- Check bits: "sent inverted": the check bits of the n bits of v.
unfoldable pub check : ℕ → ℕ → ℕ
check n v = 2 ^ check_width - 1 - remainder n v

-- The n bits of v with their check bits behind them.
unfoldable pub word : ℕ → ℕ → ℕ
word n v = v * 2 ^ check_width + check n v

-- The check is right: the last four bits of w are the check bits of the n bits before them.
unfoldable pub fits : ℕ → ℕ → Bool
fits n w = eqb (w % 2 ^ check_width) (check n (w / 2 ^ check_width))

-- Byte: "eight data bits, four check bits": the data byte of the last twelve bits of w.
unfoldable pub byte_of : ℕ → ℕ
byte_of w = w / 2 ^ check_width % 2 ^ data_bits

-- The twelve bits are counted down to 0, the last check bit.
abbrev pub top_bit : ℕ
top_bit = data_bits + check_width - 1
