-- A division bit by bit, in the code's words: one bit into a remainder, and then the bits that are left. Assumes nothing.
use mathlib.Core.Path.{◌≡◌, refl}
use mathlib.Core.Bool.{Bool, true, false, cond}
use Prim.Native.Nat.{ℕ, zero, suc, ◌+◌, ◌-◌, ◌*◌, ◌/◌, ◌%◌, ◌^◌, ◌<◌}
use native.Mathlib.Numerals.{sub-one}
use mir.Val.{bool_byte}
use lib.Bits.{bit_xor}
use lib.Dec.{eqb, ltb}
use Rattle.protocol.specs.Bits.{bit}
use Rattle.protocol.specs.Division.{check_width, polynomial, divide_bit, divide}
use Rattle.protocol.proofs.Division.{divide_bit_lt}

-- The remainder one place up, the bit added to its leading bit ..
abbrev raised : ℕ → Bool → ℕ
raised r x = (2 * r + 16 * bool_byte x) % 32

-- .. and what remains of that word, the polynomial taken out where it goes in.
abbrev remains : ℕ → ℕ
remains w = cond (ltb w 16) w (bit_xor w polynomial)

pub one_bit : (r : ℕ) (x : Bool) → r < 16
    → (remains (raised r x) ≡ divide_bit check_width polynomial r x) × (remains (raised r x) < 16)
unfolding divide_bit
one_bit r true h = (refl, divide_bit_lt r true h)
one_bit r false h = (refl, divide_bit_lt r false h)

-- Where bits are left, the division takes the highest of them and then the rest.
pub then_the_rest : (width p left v r : ℕ) → (left ≡ 0 → ⊥)
    → divide width p (left - 1) v (divide_bit width p r (eqb (v / 2 ^ (left - 1) % 2) 1)) ≡ divide width p left v r
unfolding divide bit
then_the_rest width p zero v r f = absurd (f refl)
then_the_rest width p (suc n) v r f = rw (sub-one (suc n))
