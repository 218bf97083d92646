-- Decimal numbers by two rules, for one digit and for more, and how many digits they have. Assumes nothing.
use mathlib.Core.Path.{◌≡◌}
use mathlib.Core.List.{[], ◌∷◌, ◌++◌}
use Prim.Native.Nat.{ℕ, zero, suc, ◌+◌, ◌*◌, ◌/◌, ◌%◌, ◌^◌, ◌≤◌, ◌<◌}
use native.Mathlib.Nat.{pow-succ', pow-le-pow_right}
use native.Mathlib.Numerals.{add-one}
use native.Mathlib.Omega.{arith}
use borrow.Author.Tests.{lt-ltb, le-ltb, ltb-true, ltb-false}
use lib.Dec.{ltb}
use lib.ListN.{length, length-append}
use Rattle.protocol.specs.Text.{digit, digits_in, decimal}
use Rattle.std.specs.Prelude.{Option, None, Some, IfNone, IfSome}
use Rattle.std.specs.Option.{unwrap_or}
use Rattle.laws.proofs.Every.{tested}

-- Fuel beyond the number changes nothing.
enough : (fuel more n : ℕ) → n < fuel → n < more → digits_in fuel n ≡ digits_in more n
unfolding digits_in
enough zero more n h k = absurd (omega arith)
enough (suc fuel) zero n h k = absurd (omega arith)
enough (suc fuel) (suc more) n h k =
    tested (ltb n 10) (λ q. rw q)
    (λ q. let large : 10 ≤ n = ltb-false n 10 q in rw (q, enough fuel more (n / 10) (omega arith) (omega arith)))

pub decimal_one : (n : ℕ) → n < 10 → decimal n ≡ digit n ∷ []
unfolding decimal digits_in
decimal_one n h = rw (lt-ltb n 10 h)

pub decimal_more : (n : ℕ) → 10 ≤ n → decimal n ≡ decimal (n / 10) ++ digit (n % 10) ∷ []
unfolding decimal digits_in
decimal_more n h = rw (le-ltb n 10 h, enough n (suc (n / 10)) (n / 10) (omega arith) (omega arith))

pub decimal_longer : (n : ℕ) → 10 ≤ n → length (decimal n) ≡ length (decimal (n / 10)) + 1
decimal_longer n h = rw (decimal_more n h, length-append)

-- A number from 10^k on, and below 10^(k + 1), has k + 1 digits.
pub decimal_length : (k n : ℕ) → 10 ^ k ≤ n → n < 10 ^ suc k → length (decimal n) ≡ suc k
decimal_length zero n h l = rw (decimal_one n (omega arith))
decimal_length (suc k) n h l =
    let some : 10 ^ 0 ≤ 10 ^ k = pow-le-pow_right {n = 10} (omega arith) {i = 0} {j = k} (omega arith) in
    let ten : 10 ^ suc k ≡ 10 * 10 ^ k = pow-succ' 10 k in
    let hundred : 10 ^ suc (suc k) ≡ 10 * 10 ^ suc k = pow-succ' 10 (suc k) in
    rw (decimal_longer n (omega arith), decimal_length k (n / 10) (omega arith) (omega arith), add-one)

-- The greatest power of ten in it, where there is one, and else 0, tells how many.
pub length_by_power : (n : ℕ) (power : Option ℕ) → IfNone power (n ≡ 0) → IfSome power (λ k. 10 ^ k ≤ n)
    → IfSome power (λ k. n < 10 * 10 ^ k) → unwrap_or power 0 + 1 ≡ length (decimal n)
length_by_power n None zero_only least most = rw (decimal_one n (omega arith))
length_by_power n (Some k) zero_only least most = rw (decimal_length k n least (rw pow-succ' most), add-one)

-- A number below 10^(k + 1) has at most k + 1.
pub decimal_short : (k n : ℕ) → n < 10 ^ suc k → length (decimal n) ≤ suc k
decimal_short zero n h = rw (decimal_one n (omega arith)) (omega arith)
decimal_short (suc k) n h =
    let ten : 10 ^ suc (suc k) ≡ 10 * 10 ^ suc k = pow-succ' 10 (suc k) in
    tested (ltb n 10) (λ q. rw (decimal_one n (ltb-true n 10 q)) (omega arith))
    (λ q. rw (decimal_longer n (ltb-false n 10 q), add-one) (omega (arith, decimal_short k (n / 10) (omega arith))))
