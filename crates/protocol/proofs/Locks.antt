-- Locks: "So the far slave is ID 0, and slaves past the eighth have none." A lock column over a whole chain of any length: IDL j is
-- answered 1 exactly where the chain has a slave at place j, and that slave takes number j. Assumes nothing.
use mathlib.Core.Path.{◌≡◌}
use mathlib.Core.Bool.{Bool, false, cond, not, ◌&&◌, and-false}
use mathlib.Core.List.{List}
use mathlib.Core.Option.{Option, none, some}
use Prim.Native.Nat.{ℕ, suc, ◌+◌, ◌-◌, ◌≤◌, ◌<◌, min}
use native.Mathlib.Omega.{arith}
use borrow.Author.Tests.{lt-ltb, le-ltb, ltb-true, ltb-false}
use lib.Dec.{ltb, leb-suc-zero}
use lib.ListN.{length}
use Rattle.protocol.specs.Limits.{id_count, lock_first, lock_last}
use Rattle.protocol.specs.Bits.{push}
use Rattle.protocol.specs.Rest.{frame, timer, judge}
use Rattle.protocol.specs.Memory.{Memory}
use Rattle.protocol.specs.Slave.{locks, lock, lock_next, speak, step}
use Rattle.protocol.specs.Chain.{column}
use Rattle.laws.proofs.Every.{tested}
use Rattle.protocol.proofs.Dress.{dress, pass_to, column_dress}

-- The number that the slave at place i holds once j numbers are given out.
unfoldable pub number : (i j : ℕ) → Option ℕ
number i j = cond (ltb i j) (some i) none

-- The bit that arrives at place i in a column of the locks, the `here`th after S: 1 where a slave before it takes the number that is given out
-- there; before IDL0's column none is.
unfoldable pub arrives : (here i : ℕ) → Bool
arrives here i = not (ltb here lock_first) && ltb (here - lock_first) i

none_arrives : (here : ℕ) → arrives here 0 ≡ false
unfolding arrives
none_arrives here = rw (leb-suc-zero (here - lock_first)) (and-false (not (ltb here lock_first)))

-- One slave in such a column.
lock_turn : (i here : ℕ) → here ≤ lock_last
    → lock here (number i (here - lock_first)) (arrives here i)
    ≡ record { number = number i (min id_count (here + 1 - lock_first)); sent = arrives here (suc i) }
unfolding lock number arrives
lock_turn i here h =
    let j : ℕ = here - lock_first in
    let j' : ℕ = min id_count (here + 1 - lock_first) in
    tested (ltb here lock_first)
    (λ q. let none_yet : here - lock_first ≡ 0 = omega (arith, ltb-true) in
    let none_then : here + 1 - lock_first ≡ 0 = omega (arith, ltb-true) in
    rw (q, none_yet, none_then, leb-suc-zero i, q))
    (λ q. tested (ltb i j)
    (λ a. let before : i < here - lock_first = ltb-true _ _ a in
    rw (q, a, le-ltb j i (omega arith), le-ltb j (suc i) (omega arith), lt-ltb i j' (omega arith)))
    (λ a. tested (ltb j i)
    (λ b. let past : here - lock_first < i = ltb-true _ _ b in
    rw (q, a, b, lt-ltb j (suc i) (omega arith), le-ltb i j' (omega arith)))
    (λ b. let own : here - lock_first ≡ i = omega (arith, ltb-false) in
    tested (ltb here lock_last)
    (λ d. rw (q, a, b, q, d, own, lt-ltb i (suc i) (omega arith), lt-ltb i j' (omega (arith, ltb-true, ltb-false))))
    (λ d. rw (q, a, b, q, d, lt-ltb j (suc i) (omega arith), le-ltb i j' (omega (arith, ltb-false)))))))

-- A column of the locks over the whole chain.
pub lock_column_lem : (ks : List Memory) (z z' here w : ℕ) (m : Bool) → timer z m ≡ some z' → here ≤ lock_last
    → column (dress (λ i. frame z (locks here w (number i (here - lock_first)))) 0 ks) m
    ≡ pass_to (dress (λ i. frame z' (lock_next here (push w m) (number i (min id_count (here + 1 - lock_first))))) 0 ks) (arrives here (length ks))
unfolding step judge speak
lock_column_lem ks z z' here w m t h =
    column_dress
    (λ i. frame z (locks here w (number i (here - lock_first))))
    (λ i. frame z' (lock_next here (push w m) (number i (min id_count (here + 1 - lock_first)))))
    (arrives here)
    m
    (none_arrives here)
    (λ k i. rw (t, lock_turn i here h))
    ks
