-- Waiting: a slave with the waiting number 0 confirms S at once, and any slave that of a write's first byte; and only a slave that waits makes
-- a `mute`: no column changes a waiting number, and an account over slaves that do not wait never meets an S twice. Assumes nothing.
use mathlib.Core.Path.{◌≡◌, refl}
use mathlib.Core.Bool.{Bool, true, false, not, ◌&&◌, beq}
use mathlib.Core.List.{List, [], ◌∷◌}
use mathlib.Core.Option.{Option, none, some}
use Prim.Native.Nat.{ℕ, zero, suc, ◌+◌}
use lib.Dec.{ltb, eqb}
use lib.ListN.{get_elem?}
use Rattle.protocol.specs.Limits.{header_columns, lock_last}
use Rattle.protocol.specs.Bits.{push}
use Rattle.protocol.specs.Rest.{Timed, power_on, judge}
use Rattle.protocol.specs.Division.{data_bits, fits, byte_of}
use Rattle.protocol.specs.Header.{Header, wrong, access, command, header}
use Rattle.protocol.specs.Commands.{execute_column}
use Rattle.protocol.specs.Memory.{Memory, allows, stored, delay_by, delay, counted}
use Rattle.protocol.specs.Entries.{Kind, is, Event, event, Place, opened, onward}
use Rattle.protocol.specs.Slave
use Rattle.protocol.specs.Slave.{Slave, Reply, turn, confirmed}
use Rattle.protocol.specs.Chain.{pass, column, memories, switched_on}
use Rattle.protocol.specs.Account.{Phase, deaf, locks, head, ask_r, ask_w, byte_s, carries, ask_p, acknowledge, ask_ex, Told, slave_at, delay_at, more_at, headed, asked, tell, begun, Step, step, along, entries_along}
use Rattle.laws.proofs.Every.{Every, IfAny, either, looked_up}
use Rattle.laws.proofs.Places.{every_at}
use Rattle.protocol.proofs.Machine.{At, says_so, keeps, every_note}

-- A slave that does not wait ..
abbrev pub Prompt : Memory → Type 0
Prompt k = k.wait ≡ 0

-- .. at any byte.
no_delay : (k : Memory) (write : Bool) (nth : ℕ) → Prompt k → delay k write nth ≡ 0
unfolding delay delay_by
no_delay k false nth h = h
no_delay k true nth h = either (λ (n : ℕ). n ≡ 0) (eqb nth 1) refl h

-- The base: "The addressed slave confirms S = 1 at once with 1."
pub at_once : (k : Memory) (write : Bool) (address nth : ℕ) (b : Bool) → Prompt k
    → Slave.speak k (Slave.byte_s write address nth 0) true b ≡ turn (confirmed k write address nth) true k
unfolding Slave.speak
at_once k write address nth b h = rw (no_delay k write nth h)

-- "in a write the first byte does not".
pub first_write : (k : Memory) (address : ℕ) (b : Bool)
    → Slave.speak k (Slave.byte_s true address 1 0) true b ≡ turn (confirmed k true address 1) true k
unfolding Slave.speak delay delay_by
first_write k address b = refl

-- No column changes a waiting number.
abbrev Stays : Slave.Turn → Type 0
Stays t = Prompt t.says.memory

prompt_speak : (k : Memory) (p : Slave.Phase) (m b : Bool) → Prompt k → Stays (Slave.speak k p m b)
unfolding Slave.speak stored counted
prompt_speak k Slave.deaf m b h = h
prompt_speak k (Slave.locks column so_far number) m b h = h
prompt_speak k (Slave.head column so_far number) m b h = h
prompt_speak k (Slave.ask_r address) m b h = h
prompt_speak k (Slave.ask_w address r) m b h =
    either Stays (not (beq r m) && allows k m address) h h
prompt_speak k (Slave.byte_s write address nth unconfirmed) false b h = h
prompt_speak k (Slave.byte_s write address nth unconfirmed) true b h =
    either Stays (ltb unconfirmed (delay k write nth)) h h
prompt_speak k (Slave.sends address nth zero what) m b h = h
prompt_speak k (Slave.sends address nth (suc left) what) m b h = h
prompt_speak k (Slave.takes address nth zero so_far) m b h = either Prompt (fits data_bits (push so_far m)) h h
prompt_speak k (Slave.takes address nth (suc left) so_far) m b h = h
prompt_speak k (Slave.ask_p write good address nth) m b h =
    either Stays (good && Slave.more k write address nth) h h
prompt_speak k (Slave.acknowledge zero ids cmd number) false b h = h
prompt_speak k (Slave.acknowledge zero ids cmd number) true b h = h
prompt_speak k (Slave.acknowledge (suc column) ids cmd number) m b h = h
prompt_speak k (Slave.ask_ex cmd concerned) m b h = either Prompt (m && concerned) h h

prompt_step : (s : Slave) (m b : Bool) → Prompt s.memory → Prompt (Slave.step s m b).says.memory
unfolding Slave.step
prompt_step s m b h =
    says_so (λ (r : Reply). Prompt r.memory) (λ p. Slave.speak s.memory p m b) h h (λ p. prompt_speak s.memory p m b h)
    (judge Slave.begun s.state m)

prompt_pass : (ss : List Slave) (m b : Bool) → Every Prompt (memories ss) → Every Prompt (memories (pass ss m b).slaves)
unfolding pass
prompt_pass [] m b hs = tt
prompt_pass (s ∷ ss) m b hs = (prompt_step s m b hs.0, prompt_pass ss m (Slave.step s m b).says.sent hs.1)

prompt_on : (ks : List Memory) → Every Prompt ks → Every Prompt (memories (switched_on ks))
unfolding switched_on
prompt_on [] hs = tt
prompt_on (k ∷ ks) hs = (hs.0, prompt_on ks hs.1)

-- An event that is no `mute`.
abbrev pub Loud : Event → Type 0
Loud e = is Kind.mute e ≡ false

-- S, where it is next, did not come before.
abbrev Unasked : Phase → Type 0
Unasked deaf = Unit {0}
Unasked (locks column so_far) = Unit {0}
Unasked (head column so_far) = Unit {0}
Unasked (ask_r id address) = Unit {0}
Unasked (ask_w id address r) = Unit {0}
Unasked (byte_s write id address nth unconfirmed) = unconfirmed ≡ 0
Unasked (carries write id address nth left so_far) = Unit {0}
Unasked (ask_p write good id address nth) = Unit {0}
Unasked (acknowledge column ids cmd) = Unit {0}
Unasked (ask_ex ids cmd) = Unit {0}

-- A column after which no S has come before, and that tells no `mute`.
abbrev Plain : Told → Type 0
Plain t = Unasked t.next × IfAny Loud t.says

plain_headed : (h : Header) → Plain (headed h)
unfolding headed
plain_headed wrong = (tt, refl)
plain_headed (access id address) = (tt, tt)
plain_headed (command ids cmd) = (tt, refl)

plain_asked : (o : Option Memory) (id address : ℕ) (w : Bool) → Plain (asked o id address w)
unfolding asked
plain_asked none id address w = (tt, refl)
plain_asked (some k) id address w = either Plain (allows k w address) (refl, tt) (tt, refl)

module _ (ks : List Memory) (hs : Every Prompt ks) where
  no_delay_at : (id : ℕ) (write : Bool) (nth : ℕ) → delay_at (slave_at ks id) write nth ≡ 0
  no_delay_at id write nth =
      looked_up (get_elem? ks id) (λ e. rw e) (λ k e. rw e (no_delay k write nth (every_at Prompt ks id k hs e)))

  plain_tell : (p : Phase) (m : Bool) → Unasked p → Plain (tell ks p m)
  unfolding tell
  plain_tell deaf m h = (tt, tt)
  plain_tell (locks column so_far) m h = either Plain (ltb column lock_last) (tt, tt) (tt, refl)
  plain_tell (head column so_far) m h = either Plain (ltb column header_columns) (tt, tt) (plain_headed (header (push so_far m)))
  plain_tell (ask_r id address) m h = (tt, tt)
  plain_tell (ask_w id address r) m h = either Plain (beq r m) (tt, refl) (plain_asked (slave_at ks id) id address m)
  plain_tell (byte_s write id address nth unconfirmed) false h = rw h (tt, tt)
  plain_tell (byte_s write id address nth unconfirmed) true h = rw (h, no_delay_at id write nth) (tt, tt)
  plain_tell (carries write id address nth (suc left) so_far) m h = (tt, tt)
  plain_tell (carries false id address nth zero so_far) m h = (tt, refl)
  plain_tell (carries true id address nth zero so_far) m h =
      (tt, either (λ k. Loud (event k id address (byte_of (push so_far m)))) (fits data_bits (push so_far m)) refl refl)
  plain_tell (ask_p write good id address nth) m h =
      either Plain (good && more_at (slave_at ks id) write address nth) (refl, tt) (tt, refl)
  plain_tell (acknowledge zero ids cmd) false h = (tt, tt)
  plain_tell (acknowledge zero ids cmd) true h = (either Unasked (ltb 1 (execute_column ids)) tt tt, tt)
  plain_tell (acknowledge (suc column) ids cmd) m h = (either Unasked (ltb (suc column + 1) (execute_column ids)) tt tt, tt)
  plain_tell (ask_ex ids cmd) m h = (tt, either (λ k. Loud (event k cmd 0 ids)) m refl refl)

loud_along : (row : List Bool) (ss : List Slave) (s : Timed Phase) (p : Place) → Every Prompt (memories ss) → At Unasked s
    → Every (λ e. Loud e.event) (along ss s p row)
unfolding along step
loud_along [] ss s p hs h = tt
loud_along (m ∷ row) ss s p hs h =
    let t : Step = step (memories ss) s m in
    let next : Place = onward t.state p in
    let kept = keeps Unasked {begun = begun} tt (IfAny Loud) {turn = λ q. tell (memories ss) q m} tt refl
    (λ q. plain_tell (memories ss) hs q m) s m h in
    every_note (λ e. Loud e.event) p t.says (along (column ss m).slaves t.state next row) kept.1
    (loud_along row (column ss m).slaves t.state next (prompt_pass ss m false hs) kept.0)

-- An account over slaves that do not wait holds no `mute`.
pub loud : (ks : List Memory) (row : List Bool) → Every Prompt ks → Every (λ e. Loud e.event) (entries_along ks row)
unfolding entries_along
loud ks row hs = loud_along row (switched_on ks) power_on (opened 0) (prompt_on ks hs) tt
