-- A column counts at most one execution, so that no count is above the columns that have passed: however long a row is, 32 bits hold them
-- as long as they hold its columns. What a run leaves so is in demands (counts_bounded). Assumes nothing.
use Rattle.std.specs.Prelude.{Option as Maybe, Some, None}
use mathlib.Core.List.{List}
use Prim.Native.Nat.{ℕ, zero, suc, ◌+◌, ◌≤◌}
use native.Mathlib.Omega.{arith}
use lib.ListN.{get_or}
use Rattle.protocol.specs.Memory.{uncounted, one_more}
use Rattle.laws.proofs.Places.{set_keeps}
use Rattle.run.specs.Parts.{counts_by}

-- No count is above n.
abbrev pub NoneOver : (n : ℕ) → (counts : List ℕ) → Type 0
NoneOver n counts = (code : ℕ) → get_or counts code 0 ≤ n

later : (n : ℕ) (counts : List ℕ) → NoneOver n counts → NoneOver (n + 1) counts
later n counts h code = omega (arith, h code)

one_more_lem : (n : ℕ) (counts : List ℕ) (cmd : ℕ) → NoneOver n counts → NoneOver (n + 1) (one_more counts cmd)
unfolding one_more
one_more_lem n counts cmd h code =
    set_keeps (λ v. v ≤ n + 1) counts cmd code (get_or counts cmd 0 + 1) 0 (omega (arith, h cmd)) (later n counts h code)

pub none_counted : NoneOver 0 uncounted
none_counted zero = omega arith
none_counted (suc zero) = omega arith
none_counted (suc (suc zero)) = omega arith
none_counted (suc (suc (suc zero))) = omega arith
none_counted (suc (suc (suc (suc code)))) = omega arith

-- The counts of one slave after a column, as the code makes them.
pub ran_counted : (n : ℕ) (ran : Maybe ℕ) (counts : List ℕ) → NoneOver n counts → NoneOver (n + 1) (counts_by ran counts)
ran_counted n None counts h = later n counts h
ran_counted n (Some code) counts h = one_more_lem n counts code h
