-- Whole rows: the timer around the phases, and then column after column. The reader's list is the chain's own account; replayed, it
-- leaves what the chain leaves; and each read in it shows what stood there. Assumes nothing.
use mathlib.Core.Path.{◌≡◌, refl, sym, ap, fun_ext}
use mathlib.Core.Bool.{Bool, true, false}
use mathlib.Core.List.{List, [], ◌∷◌}
use mathlib.Core.Option.{Option, none, some}
use Prim.Native.Nat.{ℕ, ◌-◌}
use native.Mathlib.Omega.{arith}
use lib.Dec.{leb-suc-zero}
use lib.ListN.{length}
use Rattle.protocol.specs.Limits.{lock_first}
use Rattle.protocol.specs.Rest.{Timed, power, rest, frame, framed, timer, judge}
use Rattle.protocol.specs.Memory.{Memory}
use Rattle.protocol.specs.Entries.{Kind, is, Event, Place, opened, onward, Entry, note}
use Rattle.protocol.specs.Slave
use Rattle.protocol.specs.Chain
use Rattle.protocol.specs.Reader
use Rattle.protocol.specs.Account
use Rattle.protocol.specs.Replay.{put, replay, WhenRead, Shows}
use Rattle.laws.proofs.Every.{IfAny, looked_up}
use Rattle.protocol.proofs.Memories.{Bytes}
use Rattle.protocol.proofs.Dress.{dress, step_to, column_dress, memories_dress, switched_on_dress}
use Rattle.protocol.proofs.Locks.{number}
use Rattle.protocol.proofs.Sim.{ladder, Sim, at_locks, Together, waiting, resting, within_frame, kept, Next, advance}

-- S: nobody holds a number, and the reader saw no lock column.
fresh : ◌≡◌ {A = ℕ → Slave.Phase} (λ i. Slave.locks 1 0 (number i (1 - lock_first))) (λ i. Slave.begun)
unfolding number
fresh = fun_ext (λ i. rw (leb-suc-zero i))

begins : (ks : List Memory) → Sim ks Account.begun (λ i. Slave.begun) Reader.begun
unfolding ladder
begins ks =
    let s : Sim ks Account.begun (λ i. Slave.locks 1 0 (number i (1 - lock_first))) (Reader.locks 1 0 (ladder (length ks) (1 - lock_first)))
    = at_locks 1 0 (omega arith) in
    rw (fresh, leb-suc-zero (length ks)) at s

module _ (ks : List Memory) (bs : Bytes ks) where
  -- All slaves move alike and pass on what they see, and nothing is written or read.
  alike : {m : Bool} {f : ℕ → Timed Slave.Phase} {T : Account.Step} {L : Bool → Reader.Step} (g : ℕ → Timed Slave.Phase)
      → ((k : Memory) (i : ℕ) → Slave.step (Slave.slave k (f i)) m false ≡ step_to k (g i) false)
      → Together ks T.state g (L false).state → (L false).says ≡ T.says → kept ks T.says ≡ ks
      → IfAny (λ e. WhenRead (is Kind.read e) ks e) T.says → Next ks f m T L
  alike {m} {f} g h onward same k shows =
      record {
        chain = g;
        answer = false;
        passes = rw k (column_dress f g (λ i. false) m refl h ks);
        onward = rw k onward;
        alike = same;
        bytes = rw k bs;
        shows = shows;
      }

  -- One column, with the fourteenth zero judged first.
  pub move : {a : Timed Account.Phase} {f : ℕ → Timed Slave.Phase} {r : Timed Reader.Phase} → Together ks a f r → (m : Bool)
      → Next ks f m (Account.step ks a m) (λ x. Reader.step r m x)
  unfolding Account.step Reader.step Slave.step judge put
  move (waiting z) m =
      looked_up (timer z m)
      (λ q. rw q (alike (λ i. rest) (λ k i. rw q) resting refl refl tt))
      (λ z' q. rw q (alike (λ i. power z') (λ k i. rw q) (waiting z') refl refl tt))
  move resting false = alike (λ i. rest) (λ k i. refl) resting refl refl tt
  move resting true = alike (λ i. frame 0 Slave.begun) (λ k i. refl) (within_frame 0 (begins ks)) refl refl tt
  move (within_frame z s) m =
      looked_up (timer z m)
      (λ q. rw q (alike (λ i. rest) (λ k i. rw q) resting refl refl tt))
      (λ z' q. rw q (advance ks bs z z' s m q))

-- Of a row with the account es: what the reader lists, and the memories that the chain is left with.
pub record Faithful (ks : List Memory) (es listed : List Entry) (left : List Memory) : Type 0 where
  pub list : listed ≡ es
  pub replayed : replay ks es ≡ left
  pub shown : Shows ks es

-- One entry, or none, before the rest.
noted : (ks : List Memory) (p : Place) (o : Option Event) {es listed : List Entry} {left : List Memory}
    → IfAny (λ e. WhenRead (is Kind.read e) ks e) o → Faithful (kept ks o) es listed left
    → Faithful ks (note p o es) (note p o listed) left
unfolding replay Shows
noted ks p none s h = h
noted ks p (some e) s h =
    record { list = ap (note p (some e)) h.list; replayed = h.replayed; shown = (s, h.shown) }

-- Three that go together are in a frame together, so that reader and account see the same start.
same_frame : {ks : List Memory} {a : Timed Account.Phase} {f : ℕ → Timed Slave.Phase} {r : Timed Reader.Phase} → Together ks a f r
    → framed r ≡ framed a
same_frame (waiting z) = refl
same_frame resting = refl
same_frame (within_frame z s) = refl

-- Column after column, from any three that go together ..
faithful : (row : List Bool) (ks : List Memory) → Bytes ks
    → {a : Timed Account.Phase} {f : ℕ → Timed Slave.Phase} {r : Timed Reader.Phase} → Together ks a f r → (p : Place)
    → Faithful ks (Account.along (dress f 0 ks) a p row) (Reader.entries r p (Reader.columns row (Chain.answers (dress f 0 ks) row)))
    (Chain.memories (Chain.after (dress f 0 ks) row))
unfolding Account.along Reader.entries Reader.columns Chain.answers Chain.after replay Shows
faithful [] ks bs {a} {f} {r} s p = record { list = refl; replayed = sym (memories_dress f 0 ks); shown = tt }
faithful (m ∷ row) ks bs {a} {f} {r} s p =
    let n : Next ks f m (Account.step ks a m) (λ x. Reader.step r m x) = move ks bs s m in
    rw (memories_dress f 0 ks, n.passes, n.alike, same_frame n.onward)
    (noted ks p (Account.step ks a m).says n.shows
    (faithful row (kept ks (Account.step ks a m).says) n.bytes n.onward (onward (Account.step ks a m).state p)))

-- .. and so from power-on.
pub whole : (ks : List Memory) (row : List Bool) → Bytes ks
    → Faithful ks (Account.entries_along ks row) (Reader.entries_from 0 (Reader.columns row (Chain.answers_from ks row))) (Chain.memories_after ks row)
unfolding Account.entries_along Reader.entries_from Chain.answers_from Chain.memories_after
whole ks row bs = rw (switched_on_dress 0 ks) (faithful row ks bs (waiting 0) (opened 0))
