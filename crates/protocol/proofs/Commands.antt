-- Commands: a column of the acknowledgement over a whole chain of any length: IDA j is answered 1 exactly where IDS selects ID j and the
-- chain has a slave at place j; whom a command concerns, by number and by place; and a count changes nothing else. Assumes nothing.
use mathlib.Core.Path.{◌≡◌, refl, ap, fun_ext}
use mathlib.Core.Bool.{Bool, true, false, cond, and-false, or-false}
use mathlib.Core.List.{List, [], ◌∷◌}
use mathlib.Core.Option.{Option, some}
use Prim.Native.Nat.{ℕ, suc, ◌+◌, ◌-◌, ◌≤◌, ◌<◌, min}
use native.Mathlib.Omega.{arith}
use borrow.Author.Tests.{le-leb, lt-ltb, le-ltb, ltb-true, ltb-false, eqb-true, eqb-false}
use lib.Dec.{ltb, leb, eqb, leb-suc-zero}
use lib.ListN.{length}
use Rattle.protocol.specs.Limits.{id_count, acknowledge_first, execute_addressed}
use Rattle.protocol.specs.Rest.{timer}
use Rattle.protocol.specs.Commands.{broadcast, selects, concerns, concerns_at, acknowledgement, execute_column}
use Rattle.protocol.specs.Memory.{Memory, counted}
use Rattle.protocol.specs.Slave.{Phase, acknowledge, ask_ex, turn, acknowledged, acknowledge_next, speak}
use Rattle.protocol.specs.Chain.{column}
use Rattle.protocol.specs.Replay.{by_place, counted_at}
use Rattle.laws.proofs.Every.{either, tested}
use Rattle.protocol.proofs.Memories.{AllBytes, Bytes}
use Rattle.protocol.proofs.Dress.{dress, pass_to}
use Rattle.protocol.proofs.Locks.{number}
use Rattle.protocol.proofs.Addressed.{framed, column_turns}

-- EX of a broadcast comes no later than that of an addressed command, and either behind S.
pub execute_early : (ids : ℕ) → execute_column ids ≤ execute_addressed
unfolding execute_column
execute_early ids = either (λ (n : ℕ). n ≤ execute_addressed) (broadcast ids) (omega arith) (omega arith)

pub execute_late : (ids : ℕ) → 0 < execute_column ids
unfolding execute_column
execute_late ids = either (λ (n : ℕ). 0 < n) (broadcast ids) (omega arith) (omega arith)

none_acknowledges : (here ids : ℕ) → acknowledgement here ids 0 ≡ false
unfolding acknowledgement
none_acknowledges here ids = rw (leb-suc-zero (here - acknowledge_first)) (and-false (leb acknowledge_first here))

-- One slave in such a column: `acknowledgement` of as many slaves as are before it arrives there.
acknowledge_turn : (i here ids : ℕ) → here < execute_addressed
    → acknowledged here ids (number i id_count) (acknowledgement here ids i) ≡ acknowledgement here ids (suc i)
unfolding number acknowledgement
acknowledge_turn i here ids h =
    let j : ℕ = here - acknowledge_first in
    tested (ltb i id_count)
    (λ q. tested (eqb here (acknowledge_first + i))
    (λ e. let same : here - acknowledge_first ≡ i = omega (arith, eqb-true here (acknowledge_first + i) e) in
    rw (q, e, le-leb acknowledge_first here (omega (arith, eqb-true here (acknowledge_first + i) e)), same, le-ltb i i (omega arith), lt-ltb i (suc i) (omega arith)) (says (selects ids i)))
    (λ e. tested (ltb j i)
    (λ b. rw (q, e, b, lt-ltb j (suc i) (omega (arith, ltb-true j i b))))
    (λ b. let past : suc i ≤ here - acknowledge_first = omega (arith, ltb-false j i b, eqb-false here (acknowledge_first + i) e) in
    rw (q, e, b, le-ltb j (suc i) past))))
    (λ q. rw (q, lt-ltb j i (omega (arith, ltb-false i id_count q)), lt-ltb j (suc i) (omega (arith, ltb-false i id_count q))))
  where
    says : (b : Bool) → cond b true false ≡ b
    says true = refl
    says false = refl

-- A column of the acknowledgement over the whole chain, where no slave goes deaf in it.
pub acknowledge_column : (ks : List Memory) (z z' here ids cmd : ℕ) (m : Bool) → timer z m ≡ some z' → here < execute_addressed
    → ((k : Memory) (o : Option ℕ) (b : Bool)
    → speak k (acknowledge here ids cmd o) m b ≡ turn (acknowledge_next here ids cmd o) (acknowledged here ids o b) k)
    → column (dress (framed z (λ i. acknowledge here ids cmd (number i id_count))) 0 ks) m
    ≡ pass_to (dress (framed z' (λ i. acknowledge_next here ids cmd (number i id_count))) 0 ks) (acknowledgement here ids (length ks))
acknowledge_column ks z z' here ids cmd m t h turns =
    column_turns z z' m t
    (λ i. acknowledge here ids cmd (number i id_count))
    (λ i. acknowledge_next here ids cmd (number i id_count))
    (acknowledgement here ids)
    (none_acknowledges here ids)
    (λ k i. rw (turns k (number i id_count) (acknowledgement here ids i), acknowledge_turn i here ids h))
    ks

-- The locks tell as many of the IDs that answer as there are: nine slaves and more are locked like nine.
pub acknowledged_locked : (here ids n : ℕ) → here < execute_addressed
    → acknowledgement here ids (min (id_count + 1) n) ≡ acknowledgement here ids n
unfolding acknowledgement
acknowledged_locked here ids n h =
    let j : ℕ = here - acknowledge_first in
    tested (ltb j n)
    (λ q. rw (q, lt-ltb j (min (id_count + 1) n) (omega (arith, ltb-true j n q))))
    (λ q. rw (q, le-ltb j (min (id_count + 1) n) (omega (arith, ltb-false j n q))))

-- Whom a command concerns by its number, and by its place.
concerned : (ids i : ℕ) → concerns ids (number i id_count) ≡ concerns_at ids i
unfolding number
concerned ids i = tested (ltb i id_count) (λ q. rw q) (λ q. rw (q, or-false (broadcast ids)))

pub all_concerned : (ids cmd : ℕ)
    → ◌≡◌ {A = ℕ → Phase} (λ i. ask_ex cmd (concerns ids (number i id_count))) (λ i. ask_ex cmd (concerns_at ids i))
all_concerned ids cmd = fun_ext (λ i. ap (ask_ex cmd) (concerned ids i))

-- A count is no register.
counts_keep : (b : Bool) (cmd : ℕ) (k : Memory) → AllBytes k → AllBytes (cond b (counted k cmd) k)
unfolding counted
counts_keep true cmd k h = h
counts_keep false cmd k h = h

pub bytes_counted : (ids cmd i : ℕ) (ks : List Memory) → Bytes ks → Bytes (by_place (counted_at ids cmd) i ks)
unfolding by_place
bytes_counted ids cmd i [] bs = tt
bytes_counted ids cmd i (k ∷ ks) bs = (counts_keep (concerns_at ids i) cmd k bs.0, bytes_counted ids cmd (suc i) ks bs.1)
