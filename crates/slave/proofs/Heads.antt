-- The locks and the header, a law for each branch of the code, in the branch's own words. Assumes nothing.
use mathlib.Core.Path.{◌≡◌}
use mathlib.Core.Bool.{Bool, true, false}
use mathlib.Core.Option.{Option, some}
use Rattle.std.specs.Prelude.{Option as Maybe, Some, None}
use Prim.Native.Nat.{ℕ, ◌+◌, ◌-◌, ◌≤◌, ◌<◌, min}
use native.Mathlib.Omega.{arith}
use borrow.Author.Tests.{lt-ltb, le-ltb}
use Rattle.protocol.specs.Limits.{header_columns, lock_first, lock_last}
use Rattle.protocol.specs.Bits.{push}
use Rattle.protocol.specs.Header.{header}
use Rattle.protocol.specs.Memory.{Memory}
use Rattle.protocol.specs.Slave as protocol
use Rattle.slave.specs.Code.{number_of, locked_as}
use Rattle.slave.specs.declared.number.Number.{Number}

-- Locks, one slave: with a number; without one, where it sees 1; before the locks; a number taken; past them.
module _ (column : ℕ) where
  pub lock_holds : {number : Maybe Number} {own : Number} (far : Bool) → number ≡ Some own
      → record { number = number_of number; sent = far } ≡ locked_as column number far
  unfolding locked_as protocol.lock
  lock_holds far e = rw e

  module _ {number : Maybe Number} (none_held : number ≡ None) where
    pub lock_passes : {far : Bool} → far ≡ true → record { number = number_of number; sent = true } ≡ locked_as column number far
    unfolding locked_as protocol.lock
    lock_passes e = rw (none_held, e)

    module _ {far : Bool} (e : far ≡ false) where
      pub lock_before : column < lock_first → record { number = number_of number; sent = false } ≡ locked_as column number far
      unfolding locked_as protocol.lock
      lock_before l = rw (none_held, e, lt-ltb (min column header_columns) lock_first (omega arith))

      pub lock_takes : lock_first ≤ column → column < lock_last
          → record { number = some (column - lock_first); sent = true } ≡ locked_as column number far
      unfolding locked_as protocol.lock
      lock_takes l u =
          let same : min column header_columns ≡ column = omega arith in
          rw (none_held, e, same, le-ltb column lock_first l, lt-ltb column lock_last u)

      pub lock_past : lock_last ≤ column → record { number = number_of number; sent = true } ≡ locked_as column number far
      unfolding locked_as protocol.lock
      lock_past l =
          rw (
            none_held,
            e,
            le-ltb (min column header_columns) lock_first (omega arith),
            le-ltb (min column header_columns) lock_last (omega arith),
          )

-- A column of the locks: one of IDL0 to IDL7, and IDL8's, which leads to the rest of the header.
module _ (k : Memory) (column w : ℕ) (number : Maybe Number) (m b : Bool) {w' : ℕ} {number' : Option ℕ} {sent : Bool} where
  pub locks_on : w' ≡ push w m → record { number = number'; sent = sent } ≡ locked_as column number b → column < lock_last
      → protocol.speak k (protocol.locks (min column header_columns) w (number_of number)) m b
      ≡ protocol.turn (protocol.locks (min (min column header_columns + 1) header_columns) w' number') sent k
  unfolding protocol.speak locked_as
  locks_on e f h =
      let next : min (min column header_columns + 1) header_columns ≡ min column header_columns + 1 = omega arith in
      rw (e, ← f, next, lt-ltb (min column header_columns) lock_last (omega arith))

  pub locks_end : w' ≡ push w m → record { number = number'; sent = sent } ≡ locked_as column number b → lock_last ≤ column
      → protocol.speak k (protocol.locks (min column header_columns) w (number_of number)) m b
      ≡ protocol.turn (protocol.head (min (min column header_columns + 1) (header_columns + 1)) w' number') sent k
  unfolding protocol.speak locked_as
  locks_end e f h =
      let next : min (min column header_columns + 1) (header_columns + 1) ≡ min column header_columns + 1 = omega arith in
      rw (e, ← f, next, le-ltb (min column header_columns) lock_last (omega arith))

-- The rest of the header: a column, and the last one, which calls the slave or leaves it deaf.
module _ (k : Memory) (column w : ℕ) (number : Option ℕ) (m b : Bool) {w' : ℕ} (e : w' ≡ push w m) where
  pub head_on : column < header_columns
      → protocol.speak k (protocol.head (min column (header_columns + 1)) w number) m b
      ≡ protocol.turn (protocol.head (min (column + 1) (header_columns + 1)) w' number) b k
  unfolding protocol.speak
  head_on h =
      let next : min (column + 1) (header_columns + 1) ≡ min column (header_columns + 1) + 1 = omega arith in
      rw (e, next, lt-ltb (min column (header_columns + 1)) header_columns (omega arith))

  pub head_called : {phase : protocol.Phase} → header_columns ≤ column → phase ≡ protocol.called (header w') number
      → protocol.speak k (protocol.head (min column (header_columns + 1)) w number) m b ≡ protocol.turn phase b k
  unfolding protocol.speak
  head_called h f = rw (f, le-ltb (min column (header_columns + 1)) header_columns (omega arith), ← e)
