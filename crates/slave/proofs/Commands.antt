-- A command behind its header, a law for each branch of the code, in the branch's own words. Assumes nothing.
use mathlib.Core.Path.{◌≡◌, refl, sym, ◌∙◌}
use mathlib.Core.Bool.{Bool, true, false, ◌&&◌, false≢true}
use mathlib.Core.Option.{Option}
use Rattle.std.specs.Bool.{then_some}
use Prim.Native.Nat.{ℕ, zero, suc, ◌+◌, ◌-◌, ◌≤◌, ◌<◌}
use native.Mathlib.Omega.{arith}
use borrow.Author.Tests.{lt-ltb, le-ltb, eqb-true}
use Rattle.protocol.specs.Commands.{concerns, execute_column}
use Rattle.protocol.specs.Memory.{Memory}
use Rattle.protocol.specs.Slave as protocol
use Rattle.machine.specs.Commands.{stops_at}
use Rattle.slave.specs.Code.{ran_by}

-- S and the columns behind it, whose bits are not judged: a 0 at S, and any other bit.
module _ (k : Memory) (ids cmd : ℕ) (number : Option ℕ) (far : Bool) where
  stopped_at : (column : ℕ) (m : Bool) → stops_at column m ≡ true
      → protocol.speak k (protocol.acknowledge column ids cmd number) m far ≡ protocol.turn protocol.deaf far k
  unfolding protocol.speak stops_at
  stopped_at column true e = absurd (false≢true e)
  stopped_at zero false e = refl
  stopped_at (suc column) false e = absurd (omega (arith, eqb-true (suc column) 0 e))

  went_on : (column : ℕ) (m : Bool) → stops_at column m ≡ false
      → protocol.speak k (protocol.acknowledge column ids cmd number) m far
      ≡ protocol.turn (protocol.acknowledge_next column ids cmd number) (protocol.acknowledged column ids number far) k
  unfolding protocol.speak stops_at
  went_on zero true e = refl
  went_on (suc column) true e = refl
  went_on zero false e = absurd (false≢true (sym e))
  went_on (suc column) false e = refl

  -- By the code: a 0 at S; a column before EX's is left; the next one is EX's.
  module _ (column : ℕ) (m : Bool) {stop : Bool} (s : stop ≡ stops_at column m) where
    pub acknowledge_ends : stop ≡ true
        → protocol.speak k (protocol.acknowledge column ids cmd number) m far ≡ protocol.turn protocol.deaf far k
    acknowledge_ends t = stopped_at column m (sym s ∙ t)

    module _ {ex : ℕ} {sent : Bool} (x : ex ≡ execute_column ids) (a : sent ≡ protocol.acknowledged column ids number far)
        (t : stop ≡ false) where
      pub acknowledge_on : column < ex - 1
          → protocol.speak k (protocol.acknowledge column ids cmd number) m far
          ≡ protocol.turn (protocol.acknowledge (column + 1) ids cmd number) sent k
      acknowledge_on l = went_on column m (sym s ∙ t) ∙ rw (a, ← x, lt-ltb (column + 1) ex (omega arith))

      pub acknowledge_last : {f : Bool} → f ≡ concerns ids number → ex - 1 ≤ column
          → protocol.speak k (protocol.acknowledge column ids cmd number) m far ≡ protocol.turn (protocol.ask_ex cmd f) sent k
      acknowledge_last c l = went_on column m (sym s ∙ t) ∙ rw (c, a, ← x, le-ltb (column + 1) ex (omega arith))

-- EX, by what it executes.
pub asks_EX : (k : Memory) (cmd : ℕ) (concerned m far : Bool)
    → protocol.speak k (protocol.ask_ex cmd concerned) m far ≡ protocol.turn protocol.deaf far (ran_by (then_some (m && concerned) cmd) k)
unfolding protocol.speak
asks_EX k cmd true true far = refl
asks_EX k cmd false true far = refl
asks_EX k cmd concerned false far = refl
