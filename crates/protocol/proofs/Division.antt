-- The check bits, proved once over the number of bits: a word with its check bits is accepted and no other four bits are; what the
-- division looks at, and how it goes on over bits behind others. The table that holds the header's check bits is checkbits's. Assumes
-- nothing.
use mathlib.Core.Logic.{◌↔◌}
use mathlib.Core.Path.{◌≡◌, refl, sym, ap, ◌∙◌}
use mathlib.Core.Bool.{Bool, true, false, false≢true, beq}
use Prim.Native.Nat.{ℕ, zero, suc, ◌+◌, ◌-◌, ◌*◌, ◌/◌, ◌%◌, ◌^◌, ◌<◌}
use native.Mathlib.Nat.{add_comm, suc-add, zero-add, mod-eq_of_lt, mod-mod}
use native.Mathlib.Numerals.{one-add}
use native.Mathlib.Omega.{arith}
use borrow.Author.Tests.{eq-eqb, eqb-true, ltb-true}
use lib.Dec.{ltb, eqb}
use lib.Pow.{shr-shr, high, low, field, mod-mod-pow}
use Rattle.protocol.specs.Bits.{bit, bit_of}
use Rattle.protocol.specs.Division.{divide_bit, divide, check_width, polynomial, remainder, check, word, fits}
use Rattle.laws.proofs.Table.{below}

-- A bit above the lowest m is a bit of what stands above them.
pub bit_above : (n m v : ℕ) {c : ℕ} → c < 2 ^ m → bit (n + m) (v * 2 ^ m + c) ≡ bit n v
unfolding bit
bit_above n m v {c} h = rw (add_comm n m, ← shr-shr (v * 2 ^ m + c) m n, high v m h)

-- The bits of the lowest n + 1 are the bit on top and the lowest n.
top : (n v : ℕ) → v % 2 ^ suc n / 2 ^ n ≡ v / 2 ^ n % 2
top n v = rw (← one-add n) (field v 1 n)

pub under : (n v : ℕ) → v % 2 ^ suc n % 2 ^ n ≡ v % 2 ^ n
under n v = rw (← one-add n) (mod-mod-pow v 1 n)

pub bit_same : (n u v : ℕ) → u % 2 ^ suc n ≡ v % 2 ^ suc n → bit n u ≡ bit n v
unfolding bit
bit_same n u v e = ap bit_of (sym (top n u) ∙ ap (λ (x : ℕ). x / 2 ^ n) e ∙ top n v)

-- The division of n bits looks at the lowest n alone.
pub divide_low : (width p n u v r : ℕ) → u % 2 ^ n ≡ v % 2 ^ n → divide width p n u r ≡ divide width p n v r
unfolding divide
divide_low width p zero u v r e = refl
divide_low width p (suc n) u v r e =
    rw (bit_same n u v e)
    (divide_low width p n u v _ (sym (under n u) ∙ ap (λ (x : ℕ). x % 2 ^ n) e ∙ under n v))

-- The division of n bits and then m more: first those, then these.
pub divide_append : (width p n m v r : ℕ) {c : ℕ} → c < 2 ^ m
    → divide width p (n + m) (v * 2 ^ m + c) r ≡ divide width p m c (divide width p n v r)
unfolding divide
divide_append width p zero m v r {c} h =
    rw (zero-add m) (divide_low width p m (v * 2 ^ m + c) c r (low v m h ∙ sym (mod-eq_of_lt h)))
divide_append width p (suc n) m v r {c} h =
    rw (suc-add n m)
    (ap (λ (b : Bool). divide width p (n + m) (v * 2 ^ m + c) (divide_bit width p r b)) (bit_above n m v h)
    ∙ divide_append width p n m v _ h)

-- Check bits are four bits.
pub check_lt : (n v : ℕ) → check n v < 2 ^ check_width
unfolding check
check_lt n v = omega arith

-- A word with its check bits is accepted ..
pub accepted : (n v : ℕ) → fits n (word n v) ≡ true
unfolding fits word
accepted n v = eq-eqb _ _ (low v check_width (check_lt n v) ∙ ap (check n) (sym (high v check_width (check_lt n v))))

-- .. and no other four bits are.
pub no_other : (n v c : ℕ) → c < 2 ^ check_width → fits n (v * 2 ^ check_width + c) ≡ true → c ≡ check n v
unfolding fits
no_other n v c h e =
    sym (low v check_width h) ∙ eqb-true _ _ e ∙ ap (check n) (high v check_width h)

-- The check of n bits looks at the lowest n alone.
pub check_low : (n v : ℕ) → check n (v % 2 ^ n) ≡ check n v
unfolding check remainder
check_low n v =
    ap (λ (r : ℕ). 2 ^ check_width - 1 - r)
    (divide_low check_width polynomial n (v % 2 ^ n) v 0 (mod-mod v (2 ^ n)))

-- Remainders are four bits: a test at each remainder and bit.
bit_below : Bool → ℕ → Bool
bit_below x r = ltb (divide_bit check_width polynomial r x) (2 ^ check_width)

pub divide_bit_lt : (r : ℕ) (x : Bool) → r < 2 ^ check_width → divide_bit check_width polynomial r x < 2 ^ check_width
unfolding bit_below divide_bit
divide_bit_lt r true h = ltb-true _ _ (below (2 ^ check_width) (bit_below true) refl r h)
divide_bit_lt r false h = ltb-true _ _ (below (2 ^ check_width) (bit_below false) refl r h)

divide_lt : (n v r : ℕ) → r < 2 ^ check_width → divide check_width polynomial n v r < 2 ^ check_width
unfolding divide
divide_lt zero v r h = h
divide_lt (suc n) v r h = divide_lt n v _ (divide_bit_lt r (bit n v) h)

pub remainder_lt : (n v : ℕ) → remainder n v < 2 ^ check_width
unfolding remainder
remainder_lt n v = divide_lt n v 0 (omega arith)

-- The four bits that bring a remainder to 0 are its own: a test at each remainder with each four bits behind it.
back : (r c : ℕ) → Bool
back r c = beq (eqb (divide check_width polynomial check_width c r) 0) (eqb c r)

backs : ℕ → Bool
backs k = back (k / 2 ^ check_width) (k % 2 ^ check_width)

all_back : (k : ℕ) → k < 2 ^ check_width * 2 ^ check_width → backs k ≡ true
unfolding backs back divide divide_bit bit
all_back k h = below (2 ^ check_width * 2 ^ check_width) backs refl k h

own : (r c : ℕ) → r < 2 ^ check_width → c < 2 ^ check_width → back r c ≡ true
unfolding backs
own r c h k = rw (high r check_width k, low r check_width k) at (all_back (r * 2 ^ check_width + c) (omega arith))

same_test : (a b : Bool) → beq a b ≡ true → a ≡ b
same_test true true t = refl
same_test true false t = absurd (false≢true t)
same_test false true t = absurd (false≢true t)
same_test false false t = refl

-- On paper: a word with its check bits turned back divides with nothing left, and with no other four bits does it.
pub divides : (n v c : ℕ) → c < 2 ^ check_width
    → (remainder (n + check_width) (v * 2 ^ check_width + c) ≡ 0) ↔ (2 ^ check_width - 1 - c ≡ check n v)
unfolding remainder check back
divides n v c h =
    let r : ℕ = remainder n v in
    let e : eqb (divide check_width polynomial check_width c r) 0 ≡ eqb c r = same_test _ _ (own r c (remainder_lt n v) h) in
    let a : remainder (n + check_width) (v * 2 ^ check_width + c) ≡ divide check_width polynomial check_width c r
    = divide_append check_width polynomial n check_width v 0 h in (
      λ z. ap (λ (x : ℕ). 2 ^ check_width - 1 - x) (eqb-true c r (sym e ∙ eq-eqb _ 0 (sym a ∙ z))),
      λ z. let q : c ≡ r = omega (arith, remainder_lt n v) in a ∙ eqb-true _ 0 (e ∙ eq-eqb c r q),
    )
