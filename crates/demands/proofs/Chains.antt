-- A chain's lent registers and its memories: bytes, as many as rights, there and back, as many after a replay, and alike where they may be
-- read; and lent waits of 0. Assumes nothing.
use mathlib.Core.Path.{◌≡◌, refl, ap, ap₂, ◌∙◌}
use mathlib.Core.Bool.{true}
use mathlib.Core.List.{List, [], ◌∷◌, ◌++◌, map, head-eq_of_cons-eq, tail-eq_of_cons-eq}
use Prim.Native.Nat.{ℕ, zero, suc, ◌+◌, ◌*◌, ◌^◌, ◌≤◌, ◌<◌}
use native.Mathlib.Omega.{arith}
use borrow.Author.Tests.{ltb-true, ltb-false}
use lib.Dec.{ltb}
use lib.ListN.{length, take, drop, get_or, take-append-drop, length-append, length-take, length-drop, get_or-eq_default}
use lib.Seq.{get_or-take, get_or-drop}
use Rattle.protocol.specs.Limits.{bank_size}
use Rattle.protocol.specs.Division.{data_bits}
use Rattle.protocol.specs.Commands.{concerns_at}
use Rattle.protocol.specs.Memory.{Memory, chosen, delay, uncounted, counted}
use Rattle.protocol.specs.Pieces.{joined}
use Rattle.protocol.specs.Entries.{Kind, is, Event, Entry}
use Rattle.protocol.specs.Replay.{stored_at, by_place, counted_at, put, replay}
use Rattle.laws.proofs.Every.{Every, either, tested}
use Rattle.protocol.proofs.Memories.{Bytes, stored_size}
use Rattle.protocol.proofs.Rightful.{Paired}
use Rattle.protocol.proofs.Twins.{Like, Alike}
use Rattle.protocol.proofs.Waits.{Prompt}
use Rattle.protocol.proofs.Counts.{Uncounted}
use Rattle.job.proofs.Bits.{byte_at}
use Rattle.run.specs.Run.{size_of, sizes, memories_of, registers_of, counts_of}
use Rattle.demands.specs.Lent.{are_bytes, none_waits, may_read, DifferUnread, bank_registers}

-- A slave's own bytes are the buffer's, and past them nothing stands.
module _ (size : ℕ) (bytes : List ℕ) (place : ℕ) where
  own : place < size → get_or (take size bytes) place 0 ≡ get_or bytes place 0
  own h = get_or-take size bytes place 0 h

  past_own : size ≤ place → get_or (take size bytes) place 0 ≡ 0
  past_own h = get_or-eq_default (take size bytes) 0 (omega (arith, length-take size bytes))

-- Registers lent as bytes are bytes in every memory.
all_bytes : (table registers rights waits : List ℕ) → ((place : ℕ) → get_or registers place 0 < 2 ^ data_bits)
    → Bytes (memories_of table registers rights waits)
unfolding memories_of
all_bytes [] registers rights waits h = tt
all_bytes (b ∷ table) registers rights waits h = (
  λ place. tested (ltb place (size_of b))
      (λ q. rw (own (size_of b) registers place (ltb-true _ _ q)) (h place))
      (λ q. rw (past_own (size_of b) registers place (ltb-false _ _ q)) (omega arith)),
  all_bytes table (drop (size_of b) registers) (drop (size_of b) rights) (drop 1 waits) (λ place. rw get_or-drop (h (size_of b + place))),
)

pub memories_bytes : (table registers rights waits : List ℕ) → are_bytes registers ≡ true → Bytes (memories_of table registers rights waits)
unfolding are_bytes
memories_bytes table registers rights waits e = all_bytes table registers rights waits (λ place. omega (arith, byte_at _ registers place e))

-- Slaves lent with waits of 0 do not wait.
none_wait : (table registers rights waits : List ℕ) → ((place : ℕ) → get_or waits place 0 ≡ 0)
    → Every Prompt (memories_of table registers rights waits)
unfolding memories_of
none_wait [] registers rights waits h = tt
none_wait (b ∷ table) registers rights waits h =
    (h 0, none_wait table (drop (size_of b) registers) (drop (size_of b) rights) (drop 1 waits) (λ place. rw get_or-drop (h (1 + place))))

pub memories_prompt : (table registers rights waits : List ℕ) → none_waits waits ≡ true
    → Every Prompt (memories_of table registers rights waits)
unfolding none_waits
memories_prompt table registers rights waits e = none_wait table registers rights waits (λ place. omega (arith, byte_at _ waits place e))

-- As many rights as registers, of all slaves and so of each.
pub memories_paired : (table registers rights waits : List ℕ) → length rights ≡ length registers
    → Every Paired (memories_of table registers rights waits)
unfolding memories_of
memories_paired [] registers rights waits e = tt
memories_paired (b ∷ table) registers rights waits e =
    (simp (length-take, e), memories_paired table (drop (size_of b) registers) (drop (size_of b) rights) (drop 1 waits) (simp (length-drop, e)))

-- As many slaves as the table has, each with counts of 0.
pub memories_uncounted : (table registers rights waits : List ℕ) → Every Uncounted (memories_of table registers rights waits)
unfolding memories_of
memories_uncounted [] registers rights waits = tt
memories_uncounted (b ∷ table) registers rights waits =
    (refl, memories_uncounted table (drop (size_of b) registers) (drop (size_of b) rights) (drop 1 waits))

pub memories_many : (table registers rights waits : List ℕ) → length (memories_of table registers rights waits) ≡ length table
unfolding memories_of
memories_many [] registers rights waits = refl
memories_many (b ∷ table) registers rights waits =
    ap suc (memories_many table (drop (size_of b) registers) (drop (size_of b) rights) (drop 1 waits))

-- The counts of all memories in one table are those of each, joined.
pub counts_joined : (ks : List Memory) → counts_of ks ≡ joined (map (λ k. k.counts) ks)
unfolding counts_of joined
counts_joined [] = refl
counts_joined (k ∷ ks) = rw (counts_joined ks)

-- The registers of all memories are the lent ones.
pub registers_back : (table registers rights waits : List ℕ) → length registers ≡ sizes table
    → registers_of (memories_of table registers rights waits) ≡ registers
unfolding memories_of registers_of sizes
registers_back [] [] rights waits e = refl
registers_back [] (r ∷ registers) rights waits e = absurd (omega arith)
registers_back (b ∷ table) registers rights waits e =
    rw (registers_back table (drop (size_of b) registers) (drop (size_of b) rights) (drop 1 waits) (rw length-drop (omega arith)))
    (take-append-drop (size_of b) registers)

-- A replay leaves as many registers.
stored_length : (ks : List Memory) (id address value : ℕ)
    → length (registers_of (stored_at ks id address value)) ≡ length (registers_of ks)
unfolding stored_at registers_of
stored_length [] id address value = refl
stored_length (k ∷ ks) zero address value = simp (length-append, stored_size k address value)
stored_length (k ∷ ks) (suc id) address value = simp (length-append, stored_length ks id address value)

-- .. and a count is no register.
counted_registers : (ids cmd i : ℕ) (ks : List Memory) → registers_of (by_place (counted_at ids cmd) i ks) ≡ registers_of ks
unfolding by_place registers_of counted
counted_registers ids cmd i [] = refl
counted_registers ids cmd i (k ∷ ks) =
    ap₂ (λ (x y : List ℕ). x ++ y)
    (either (λ (l : Memory). l.registers ≡ k.registers) (concerns_at ids i) {x = counted k cmd} {y = k} refl refl)
    (counted_registers ids cmd (suc i) ks)

put_length : (ks : List Memory) (e : Event) → length (registers_of (put ks e)) ≡ length (registers_of ks)
unfolding put
put_length ks e =
    tested (is Kind.written e) (λ q. rw q (stored_length ks e.id e.address e.value))
    (λ q. tested (is Kind.executed e) (λ x. rw (q, x) (ap length (counted_registers e.value e.id 0 ks))) (λ x. rw (q, x)))

pub replay_length : (ks : List Memory) (es : List Entry) → length (registers_of (replay ks es)) ≡ length (registers_of ks)
unfolding replay
replay_length ks [] = refl
replay_length ks (e ∷ es) = replay_length (put ks e.event) es ∙ put_length ks e.event

-- Registers that differ only where nothing may be read, and not in a bank register, make memories that are alike.
module _ {rights registers registers' : List ℕ} (differ : DifferUnread rights registers registers') (b : ℕ) where
  first_alike : (wait : ℕ) → get_or registers (bank_size * b) 0 ≡ get_or registers' (bank_size * b) 0
      → Like (record { banks = b; registers = take (size_of b) registers; rights = take (size_of b) rights; wait = wait; counts = uncounted })
      (record { banks = b; registers = take (size_of b) registers'; rights = take (size_of b) rights; wait = wait; counts = uncounted })
  unfolding chosen delay may_read
  first_alike wait same =
      record {
        banks = refl;
        rights = refl;
        delays = λ write nth. refl;
        size = simp (length-take, differ.as_many);
        bank =
            let inside : bank_size * b < size_of b = omega arith in
            rw (own (size_of b) registers (bank_size * b) inside, own (size_of b) registers' (bank_size * b) inside) same;
        readable = λ place h. tested (ltb place (size_of b))
            (λ q. let inside = ltb-true _ _ q in
            rw (own (size_of b) registers place inside, own (size_of b) registers' place inside)
            (differ.readable place (rw (own (size_of b) rights place inside) at h)))
            (λ q. let past = ltb-false _ _ q in rw (past_own (size_of b) registers place past, past_own (size_of b) registers' place past));
      }

  differ_behind : DifferUnread (drop (size_of b) rights) (drop (size_of b) registers) (drop (size_of b) registers')
  unfolding may_read
  differ_behind =
      record {
        as_many = simp (length-drop, differ.as_many);
        readable = λ place h. simp get_or-drop (differ.readable (size_of b + place) (rw get_or-drop at h));
      }

pub all_alike : (table : List ℕ) {rights registers registers' : List ℕ} (waits : List ℕ) → DifferUnread rights registers registers'
    → bank_registers table registers ≡ bank_registers table registers'
    → Alike (memories_of table registers rights waits) (memories_of table registers' rights waits)
unfolding memories_of bank_registers
all_alike [] waits differ same = tt
all_alike (b ∷ table) waits differ same = (
  first_alike differ b (get_or waits 0 0) (head-eq_of_cons-eq same),
  all_alike table (drop 1 waits) (differ_behind differ b) (tail-eq_of_cons-eq same),
)
