-- A division four bits at a time: the table of the sixteen remainders, computed at each remainder with each four bits, and four bits more
-- behind any number of bits, for a header's eleven. Assumes nothing.
use mathlib.Core.Path.{◌≡◌, refl, sym, ap, ◌∙◌}
use mathlib.Core.Bool.{Bool, true}
use Prim.Native.Nat.{ℕ, ◌+◌, ◌*◌, ◌/◌, ◌%◌, ◌^◌, ◌<◌}
use native.Mathlib.Nat.{mod-mod, mod-eq_of_lt, div-div-eq-div-mul}
use native.Mathlib.Omega.{arith}
use borrow.Author.Tests.{eqb-true, ltb-true}
use lib.Bits.{bit_xor, xor_mod}
use lib.Dec.{eqb, ltb}
use lib.ListN.{get_or}
use lib.Pow.{high, low, split}
use Rattle.protocol.specs.Bits.{bit}
use Rattle.protocol.specs.Division.{header_bits, check_width, polynomial, divide_bit, divide, remainder}
use Rattle.protocol.proofs.Division.{divide_low, divide_append}
use Rattle.laws.proofs.Table.{below}
use Rattle.checkbits.specs.declared.TheConstants.{REMAINDERS}

-- Four bits into a remainder: what remains then stands at both together, added bit by bit.
stands : (r b : ℕ) → Bool
stands r b = eqb (get_or REMAINDERS (bit_xor r b) 0) (divide check_width polynomial check_width b r)

all_stand : (k : ℕ) → k < 256 → stands (k / 16) (k % 16) ≡ true
unfolding stands divide divide_bit bit
all_stand k h = below 256 (λ k. stands (k / 16) (k % 16)) refl k h

pub four_at : (r b : ℕ) → r < 16 → get_or REMAINDERS (bit_xor r b % 16) 0 ≡ divide check_width polynomial check_width b r
unfolding stands
four_at r b h =
    let l : b % 16 < 16 = omega arith in
    rw (xor_mod r b 4, mod-eq_of_lt h)
    (eqb-true _ _ (rw (high r 4 l, low r 4 l) at (all_stand (r * 16 + b % 16) (omega arith)))
    ∙ divide_low check_width polynomial check_width (b % 16) b r (mod-mod b 16))

-- Each is below 16, whatever the place.
pub entry_low : (k : ℕ) → get_or REMAINDERS (k % 16) 0 < 16
entry_low k = ltb-true _ _ (below 16 (λ i. ltb (get_or REMAINDERS i 0) 16) refl (k % 16) (omega arith))

-- The last four of n + 4 bits go into what remains of the n before them ..
four_more : (n v : ℕ)
    → divide check_width polynomial check_width v (remainder n (v / 2 ^ check_width)) ≡ remainder (n + check_width) v
unfolding remainder
four_more n v =
    sym
    (ap (λ (u : ℕ). divide check_width polynomial (n + check_width) u 0) (sym (split v check_width))
    ∙ divide_append check_width polynomial n check_width (v / 2 ^ check_width) 0 (omega arith)
    ∙ divide_low check_width polynomial check_width (v % 2 ^ check_width) v _ (mod-mod v (2 ^ check_width)))

-- .. three bits are four with a 0 before them ..
three : (v : ℕ) → remainder check_width (v % 8) ≡ remainder 3 v
unfolding remainder divide divide_bit bit
three v =
    eqb-true _ _ (below 8 (λ k. eqb (remainder check_width k) (remainder 3 k)) refl (v % 8) (omega arith))
    ∙ divide_low check_width polynomial 3 (v % 8) v 0 (mod-mod v 8)

-- .. and a header's eleven bits are three, four and four.
pub three_fours : (v : ℕ)
    → divide check_width polynomial check_width v
    (divide check_width polynomial check_width (v / 16) (remainder check_width (v / 256 % 8)))
    ≡ remainder header_bits v
three_fours v =
    rw (three (v / 256), ← div-div-eq-div-mul v 16 16, four_more 3 (v / 16)) (four_more 7 v)
