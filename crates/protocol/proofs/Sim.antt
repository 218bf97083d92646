-- The account, the chain and the reader, side by side in a frame: which phase of each goes with which of the others, and that one
-- column takes three that go together to three that go together again. Assumes nothing.
use mathlib.Core.Path.{◌≡◌, refl, sym, ◌∙◌, fun_ext}
use mathlib.Core.Bool.{Bool, true, false, cond, not, ◌&&◌, beq, or-true}
use mathlib.Core.List.{List}
use mathlib.Core.Option.{Option, none, some}
use Prim.Native.Nat.{ℕ, zero, suc, ◌+◌, ◌-◌, ◌/◌, ◌^◌, ◌≤◌, ◌<◌, min}
use native.Mathlib.Nat.{div-eq_of_lt, div-one}
use native.Mathlib.Omega.{arith}
use borrow.Author.Tests.{lt-ltb, le-ltb, ltb-true, ltb-false, ne_eqb}
use lib.Dec.{ltb}
use lib.ListN.{length, get_elem?}
use Rattle.protocol.specs.Limits.{header_columns, id_count, lock_first, lock_last, execute_addressed}
use Rattle.protocol.specs.Bits.{bit, push}
use Rattle.protocol.specs.Rest.{Timed, power, rest, frame, timer}
use Rattle.protocol.specs.Machine.{taken, go, gives}
use Rattle.protocol.specs.Division.{data_bits, top_bit, word, fits, byte_of}
use Rattle.protocol.specs.Header.{Header, wrong, access, command, header}
use Rattle.protocol.specs.Commands.{broadcast, concerns_at, acknowledgement, execute_column}
use Rattle.protocol.specs.Memory.{Memory, allows, holds, stored, delay}
use Rattle.protocol.specs.Entries.{Kind, is, Event, event}
use Rattle.protocol.specs.Slave
use Rattle.protocol.specs.Chain
use Rattle.protocol.specs.Reader
use Rattle.protocol.specs.Account
use Rattle.protocol.specs.Replay.{counted_at, put, WhenRead}
use Rattle.protocol.proofs.Words.{push_bit, word_lt, byte_word, byte_lt, LowId, header_low}
use Rattle.protocol.proofs.Division.{accepted}
use Rattle.laws.proofs.Every.{IfAny, tested, looked_up, beq_same, beq_not}
use Rattle.laws.proofs.Places.{inside, outside, set_same, at_set, every_at}
use Rattle.protocol.proofs.Memories.{AllBytes, Bytes, byte_held, stored_set, bytes_stored, goes_on_lem}
use Rattle.protocol.proofs.Dress.{dress, pass_to}
use Rattle.protocol.proofs.Locks.{number, arrives, lock_column_lem}
use Rattle.protocol.proofs.Addressed.{framed, only, only_deaf, column_turns, column_changes, column_nobody, column_one}
use Rattle.protocol.proofs.Commands.{execute_early, acknowledge_column, acknowledged_locked, all_concerned, bytes_counted}

-- What the reader saw of n slaves in the first j lock columns.
unfoldable pub ladder : (n j : ℕ) → Reader.Locks
ladder n j = cond (ltb n j) (Reader.upto n) Reader.ones

-- The lock value of a chain.
abbrev pub lock_of : List Memory → ℕ
lock_of ks = min (id_count + 1) (length ks)

pub data Sim (ks : List Memory) : Account.Phase → (ℕ → Slave.Phase) → Reader.Phase → Type 0 where
  -- Nobody is addressed any more: all wait for rest.
  all_deaf : Sim ks Account.deaf (λ i. Slave.deaf) Reader.deaf
  -- A column of the locks is next, or one before them: as many slaves as lock columns have passed hold their place as number, and the
  -- reader saw a 1 for each of them and then zeros.
  at_locks : (column w : ℕ) → column ≤ lock_last
      → Sim ks (Account.locks column w) (λ i. Slave.locks column w (number i (column - lock_first)))
      (Reader.locks column w (ladder (length ks) (column - lock_first)))
  -- The locks are done: the first eight slaves are numbered, and the reader knows how many there are, or that there are more.
  at_head : (column w : ℕ) → Sim ks (Account.head column w) (λ i. Slave.head column w (number i id_count)) (Reader.head column w (lock_of ks))
  -- R is next, for the slave at place id, if the chain has one.
  at_R : (id address : ℕ) → id < id_count
      → Sim ks (Account.ask_r id address) (only id (Slave.ask_r address)) (Reader.ask_r id address (lock_of ks))
  -- W is next, and the slave at place id has repeated R.
  at_W : (id address : ℕ) (r : Bool) (k : Memory) → id < id_count → get_elem? ks id ≡ some k
      → Sim ks (Account.ask_w id address r) (only id (Slave.ask_w address r)) (Reader.ask_w id address (lock_of ks) r r)
  -- W is next, and there is no slave at place id: R was answered 0.
  at_W_absent : (id address : ℕ) (r : Bool) → get_elem? ks id ≡ none
      → Sim ks (Account.ask_w id address r) (λ i. Slave.deaf) (Reader.ask_w id address (lock_of ks) r false)
  -- The slave at place id has accepted, and a byte's S is next; the reader knows whether it came before.
  at_S : (write : Bool) (id address nth unconfirmed : ℕ) (k : Memory) → get_elem? ks id ≡ some k
      → Sim ks (Account.byte_s write id address nth unconfirmed) (only id (Slave.byte_s write address nth unconfirmed))
      (Reader.byte_s write id address nth (ltb 0 unconfirmed))
  -- The slave sends the byte that stands at the address, and the reader has collected the bits above those that are left.
  in_read : (id address nth left w got : ℕ) (k : Memory) → get_elem? ks id ≡ some k
      → got ≡ word data_bits (holds k address) / 2 ^ suc left
      → Sim ks (Account.carries false id address nth left w) (only id (Slave.sends address nth left (word data_bits (holds k address))))
      (Reader.reads id address nth left got)
  -- The slave and the reader have collected the same bits of the master, and the echo was right so far.
  in_write : (id address nth left w : ℕ) (k : Memory) → get_elem? ks id ≡ some k
      → Sim ks (Account.carries true id address nth left w) (only id (Slave.takes address nth left w))
      (Reader.writes id address nth left w true)
  -- A byte has passed and P is next.
  at_P : (write good : Bool) (id address nth : ℕ) (k : Memory) → get_elem? ks id ≡ some k
      → Sim ks (Account.ask_p write good id address nth) (only id (Slave.ask_p write good address nth)) (Reader.ask_p write id address nth)
  -- A column of a command's acknowledgement is next, its S first: every slave listens, and the answers fitted so far.
  at_acknowledge : (column ids cmd so_far : ℕ) → column < execute_addressed
      → Sim ks (Account.acknowledge column ids cmd) (λ i. Slave.acknowledge column ids cmd (number i id_count))
      (Reader.acknowledge column ids cmd (lock_of ks) so_far true)
  -- EX is next, and every slave knows whether it is concerned.
  at_EX : (ids cmd : ℕ) → Sim ks (Account.ask_ex ids cmd) (λ i. Slave.ask_ex cmd (concerns_at ids i)) (Reader.ask_ex ids cmd true)

-- The same around the frames.
pub data Together (ks : List Memory) : Timed Account.Phase → (ℕ → Timed Slave.Phase) → Timed Reader.Phase → Type 0 where
  -- At power-on, with as many zeros counted.
  waiting : (z : ℕ) → Together ks (power z) (λ i. power z) (power z)
  -- At rest.
  resting : Together ks rest (λ i. rest) rest
  -- In a frame, with as many zeros counted and phases that go together.
  within_frame : (z : ℕ) {p : Account.Phase} {f : ℕ → Slave.Phase} {r : Reader.Phase} → Sim ks p f r
      → Together ks (frame z p) (framed z f) (frame z r)

-- The memories after an event, if there is one.
abbrev pub kept : List Memory → Option Event → List Memory
kept ks none = ks
kept ks (some e) = put ks e

-- One column: the account's step, and the reader's step at each answer. The chain keeps what the event says, the reader says what
-- the account says, a read shows what stands there, and the three go together again.
pub record Next (ks : List Memory) (f : ℕ → Timed Slave.Phase) (m : Bool) (told : Account.Step) (looked : Bool → Reader.Step) : Type 0 where
  pub chain : ℕ → Timed Slave.Phase
  pub answer : Bool
  pub passes : Chain.column (dress f 0 ks) m ≡ pass_to (dress chain 0 (kept ks told.says)) answer
  pub onward : Together (kept ks told.says) told.state chain (looked answer).state
  pub alike : (looked answer).says ≡ told.says
  pub bytes : Bytes (kept ks told.says)
  pub shows : IfAny (λ e. WhenRead (is Kind.read e) ks e) told.says

-- A column of the locks of n slaves to the reader: IDL j is 1 where there is a slave at place j.
ladder_next : (n column : ℕ) → Reader.seen_at column (ladder n (column - lock_first)) (arrives column n) ≡ ladder n (column + 1 - lock_first)
unfolding ladder arrives Reader.seen
ladder_next n column =
    let j : ℕ = column - lock_first in
    let j' : ℕ = column + 1 - lock_first in
    tested (ltb column lock_first)
    (λ b. let none_yet : column - lock_first ≡ 0 = omega (arith, ltb-true) in
    let none_then : column + 1 - lock_first ≡ 0 = omega (arith, ltb-true) in
    rw (b, none_yet, none_then))
    (λ b. tested (ltb n j)
    (λ q. rw (b, q, le-ltb j n (omega (arith, ltb-true)), lt-ltb n j' (omega (arith, ltb-true))))
    (λ q. tested (ltb j n)
    (λ r. rw (b, q, r, le-ltb n j' (omega (arith, ltb-true, ltb-false))))
    (λ r. let end : column - lock_first ≡ n = omega (arith, ltb-false) in rw (b, q, r, end, lt-ltb n j' (omega (arith, ltb-false))))))

-- After IDL8 the reader has the lock value.
ladder_locked : (n column w : ℕ) → column ≡ lock_last
    → Reader.locked column w (Reader.seen_at column (ladder n (column - lock_first)) (arrives column n))
    ≡ gives (event Kind.lock 0 0 (min (id_count + 1) n)) (Reader.head (column + 1) w (min (id_count + 1) n))
unfolding ladder Reader.locked
ladder_locked n column w e =
    rw (ladder_next n column, e)
    (tested (ltb n (id_count + 1))
    (λ q. let few : min (id_count + 1) n ≡ n = omega (arith, ltb-true) in rw (q, few))
    (λ q. let many : min (id_count + 1) n ≡ id_count + 1 = omega (arith, ltb-false) in rw (q, many)))

-- Of the numbered slaves the header calls the one at its place.
called_only : (id address : ℕ) → id < id_count
    → (λ i. Slave.called (access id address) (number i id_count)) ≡ only id (Slave.ask_r address)
unfolding Slave.called number only
called_only id address h =
    fun_ext (λ i. tested (ltb i id_count) (λ q. rw q) (λ q. rw (q, ne_eqb i id (λ e. omega (arith, ltb-false)))))

module _ (ks : List Memory) (bs : Bytes ks) (z z' : ℕ) where
  -- A column of a frame that is not the fourteenth zero.
  to : {m : Bool} {f : ℕ → Slave.Phase} {T : Account.Told} {L : Bool → Reader.Look} (g : ℕ → Slave.Phase) (x : Bool)
      → Chain.column (dress (framed z f) 0 ks) m ≡ pass_to (dress (framed z' g) 0 (kept ks T.says)) x
      → Sim (kept ks T.says) T.next g (L x).next → (L x).says ≡ T.says
      → Bytes (kept ks T.says) → IfAny (λ e. WhenRead (is Kind.read e) ks e) T.says
      → Next ks (framed z f) m (taken z' T) (λ y. taken z' (L y))
  to g x passes onward alike bytes shows =
      record {
        chain = framed z' g;
        answer = x;
        passes = passes;
        onward = within_frame z' onward;
        alike = alike;
        bytes = bytes;
        shows = shows;
      }

  module _ (m : Bool) (t : timer z m ≡ some z') where
    -- Nobody speaks; the addressed slave speaks and keeps its memory; or it goes deaf, as all others are.
    deafened : Chain.column (dress (framed z (λ i. Slave.deaf)) 0 ks) m ≡ pass_to (dress (framed z' (λ i. Slave.deaf)) 0 ks) false
    unfolding Slave.speak
    deafened = column_turns z z' m t (λ i. Slave.deaf) (λ i. Slave.deaf) (λ i. false) refl (λ k i. refl) ks

    speaks : (id : ℕ) (p p' : Slave.Phase) (x : Bool) (k : Memory) → get_elem? ks id ≡ some k
        → ((b : Bool) → Slave.speak k p m b ≡ Slave.turn p' x k)
        → Chain.column (dress (framed z (only id p)) 0 ks) m ≡ pass_to (dress (framed z' (only id p')) 0 ks) x
    speaks id p p' x k e h = rw (set_same ks id k e) at (column_one z z' m t id p k p' x k h ks e)

    goes_deaf : (id : ℕ) (p : Slave.Phase) (x : Bool) (k : Memory) → get_elem? ks id ≡ some k
        → ((b : Bool) → Slave.speak k p m b ≡ Slave.turn Slave.deaf x k)
        → Chain.column (dress (framed z (only id p)) 0 ks) m ≡ pass_to (dress (framed z' (λ i. Slave.deaf)) 0 ks) x
    goes_deaf id p x k e h = rw (only_deaf id) at (speaks id p Slave.deaf x k e h)

  -- The header's last column, for each header.
  headed : {m : Bool} {f : ℕ → Slave.Phase} (h : Header) → LowId h
      → Chain.column (dress (framed z f) 0 ks) m ≡ pass_to (dress (framed z' (λ i. Slave.called h (number i id_count))) 0 ks) false
      → Next ks (framed z f) m (taken z' (Account.headed h)) (λ x. taken z' (Reader.headed h (lock_of ks)))
  unfolding Account.headed Reader.headed Slave.called put
  headed wrong low passes = to (λ i. Slave.deaf) false passes all_deaf refl bs tt
  headed (command ids cmd) low passes =
      to (λ i. Slave.acknowledge 0 ids cmd (number i id_count)) false passes (at_acknowledge 0 ids cmd 0 (omega arith)) refl bs tt
  headed (access id address) low passes =
      to (only id (Slave.ask_r address)) false (rw (called_only id address low) at passes) (at_R id address low) refl bs tt

  byte_at : (id address : ℕ) (k : Memory) → get_elem? ks id ≡ some k → holds k address < 2 ^ data_bits
  byte_at id address k e = byte_held k address (every_at AllBytes ks id k bs e)

  -- The reader's next bit of the byte that is sent.
  collects : (id address left got : ℕ) (k : Memory) → get_elem? ks id ≡ some k → got ≡ word data_bits (holds k address) / 2 ^ suc left
      → push got (bit left (word data_bits (holds k address))) ≡ word data_bits (holds k address) / 2 ^ left
  collects id address left got k e h =
      rw h (push_bit left (word data_bits (holds k address)) (omega (arith, word_lt data_bits (holds k address) (byte_at id address k e))))

  -- S is confirmed: a byte is read, or written.
  opens : (write : Bool) (id address nth unconfirmed : ℕ) (k : Memory) → get_elem? ks id ≡ some k → timer z true ≡ some z'
      → ltb unconfirmed (delay k write nth) ≡ false
      → Next ks (framed z (only id (Slave.byte_s write address nth unconfirmed))) true (taken z' (go (Account.carries write id address nth top_bit 0)))
      (λ x. taken z' (Reader.look (Reader.byte_s write id address nth (ltb 0 unconfirmed)) true x))
  unfolding Reader.look Slave.speak
  opens false id address nth unconfirmed k e t q =
      let what : ℕ = word data_bits (holds k address) in
      let small : what < 2 ^ suc top_bit = word_lt data_bits (holds k address) (byte_at id address k e) in
      to (only id (Slave.sends address nth top_bit what)) true
      (speaks true t id (Slave.byte_s false address nth unconfirmed) (Slave.sends address nth top_bit what) true k e (λ b. rw q))
      (in_read id address nth top_bit 0 0 k e (sym (div-eq_of_lt small))) refl bs tt
  opens true id address nth unconfirmed k e t q =
      to (only id (Slave.takes address nth top_bit 0)) true
      (speaks true t id (Slave.byte_s true address nth unconfirmed) (Slave.takes address nth top_bit 0) true k e (λ b. rw q))
      (in_write id address nth top_bit 0 k e) refl bs tt

  -- A column of the acknowledgement, in which no slave goes deaf: the reader sees what the locks and IDS let it expect.
  acknowledges : (column ids cmd so_far : ℕ) (m : Bool) → column < execute_addressed → timer z m ≡ some z'
      → ((k : Memory) (o : Option ℕ) (b : Bool) → Slave.speak k (Slave.acknowledge column ids cmd o) m b
      ≡ Slave.turn (Slave.acknowledge_next column ids cmd o) (Slave.acknowledged column ids o b) k)
      → Next ks (framed z (λ i. Slave.acknowledge column ids cmd (number i id_count))) m
      (taken z' (go (Account.acknowledge_next column ids cmd)))
      (λ x. taken z' (Reader.acknowledged column ids cmd (lock_of ks) so_far true x))
  acknowledges column ids cmd so_far m h t turns =
      let x : Bool = acknowledgement column ids (length ks) in
      let passes = acknowledge_column ks z z' column ids cmd m t h turns in
      let fitting : Reader.fits_ida column ids (lock_of ks) x ≡ true
      = rw (acknowledged_locked column ids (length ks) h, beq_same x) (or-true (broadcast ids)) in
      tested (ltb (column + 1) (execute_column ids))
      (λ q. rw q
      (to (λ i. Slave.acknowledge (column + 1) ids cmd (number i id_count)) x (rw q at passes)
      (rw fitting (at_acknowledge (column + 1) ids cmd (push so_far x) (omega (arith, ltb-true (column + 1) (execute_column ids) q, execute_early ids)))) refl bs tt))
      (λ q. rw q
      (to (λ i. Slave.ask_ex cmd (concerns_at ids i)) x (rw (q, all_concerned ids cmd) at passes)
      (rw fitting (at_EX ids cmd)) (rw fitting) bs tt))

  -- One column of a frame, in each of the cases above.
  pub advance : {p : Account.Phase} {f : ℕ → Slave.Phase} {r : Reader.Phase} → Sim ks p f r → (m : Bool) → timer z m ≡ some z'
      → Next ks (framed z f) m (taken z' (Account.tell ks p m)) (λ x. taken z' (Reader.look r m x))
  unfolding Account.tell Account.asked Reader.look Reader.asked Slave.speak put
  advance all_deaf m t = to (λ i. Slave.deaf) false (deafened m t) all_deaf refl bs tt
  advance (at_locks column w h) m t =
      tested (ltb column lock_last)
      (λ q. let next : min id_count (column + 1 - lock_first) ≡ column + 1 - lock_first = omega (arith, ltb-true) in
      rw q
      (to (λ i. Slave.locks (column + 1) (push w m) (number i (column + 1 - lock_first))) (arrives column (length ks))
      (rw (q, next) at (lock_column_lem ks z z' column w m t h))
      (rw (ladder_next (length ks) column) (at_locks (column + 1) (push w m) (omega (arith, ltb-true)))) refl bs tt))
      (λ q. let next : min id_count (column + 1 - lock_first) ≡ id_count = omega (arith, ltb-false) in
      let last : column ≡ lock_last = omega (arith, ltb-false) in
      rw q
      (to (λ i. Slave.head (column + 1) (push w m) (number i id_count)) (arrives column (length ks))
      (rw (q, next) at (lock_column_lem ks z z' column w m t h))
      (rw (ladder_locked (length ks) column (push w m) last) (at_head (column + 1) (push w m)))
      (rw (ladder_locked (length ks) column (push w m) last)) bs tt))
  advance (at_head column w) m t =
      tested (ltb column header_columns)
      (λ q. rw q
      (to (λ i. Slave.head (column + 1) (push w m) (number i id_count)) false
      (column_turns z z' m t (λ i. Slave.head column w (number i id_count)) _ (λ i. false) refl (λ k i. rw q) ks)
      (at_head (column + 1) (push w m)) refl bs tt))
      (λ q. rw q
      (headed (header (push w m)) (header_low (push w m))
      (column_turns z z' m t (λ i. Slave.head column w (number i id_count)) _ (λ i. false) refl (λ k i. rw q) ks)))
  advance (at_R id address h) m t =
      looked_up (get_elem? ks id)
      (λ e. to (λ i. Slave.deaf) false (column_nobody z z' m t id (Slave.ask_r address) ks e) (at_W_absent id address m e) refl bs tt)
      (λ k e. to (only id (Slave.ask_w address m)) m (speaks m t id (Slave.ask_r address) (Slave.ask_w address m) m k e (λ b. refl))
      (at_W id address m k h e) refl bs tt)
  advance (at_W id address r k h e) m t =
      let locked : ltb id (lock_of ks) ≡ true = lt-ltb id (lock_of ks) (omega (arith, inside ks id k e)) in
      tested (beq r m)
      (λ q. rw q (to (λ i. Slave.deaf) (not m) (goes_deaf m t id (Slave.ask_w address r) (not m) k e (λ b. rw q)) all_deaf refl bs tt))
      (λ q. tested (allows k m address)
      (λ a. rw (q, e, a, locked, beq_same r)
      (to (only id (Slave.byte_s m address 1 0)) m
      (speaks m t id (Slave.ask_w address r) (Slave.byte_s m address 1 0) m k e (λ b. rw (q, a)))
      (rw (beq_same m) (at_S m id address 1 0 k e)) (rw (beq_same m)) bs tt))
      (λ a. rw (q, e, a, locked, beq_same r)
      (to (λ i. Slave.deaf) (not m) (goes_deaf m t id (Slave.ask_w address r) (not m) k e (λ b. rw (q, a)))
      (rw (beq_not m) all_deaf) (rw (beq_not m)) bs tt)))
  advance (at_W_absent id address r e) m t =
      let unlocked : ltb id (lock_of ks) ≡ false = le-ltb id (lock_of ks) (omega (arith, outside ks id e)) in
      tested (beq r m)
      (λ q. rw q (to (λ i. Slave.deaf) false (deafened m t) all_deaf refl bs tt))
      (λ q. rw (q, e, unlocked) (to (λ i. Slave.deaf) false (deafened m t) all_deaf refl bs tt))
  advance (at_S write id address nth unconfirmed k e) false t =
      let passes = goes_deaf false t id (Slave.byte_s write address nth unconfirmed) false k e (λ b. refl) in
      tested (ltb 0 unconfirmed)
      (λ q. rw q (to (λ i. Slave.deaf) false passes all_deaf refl bs tt))
      (λ q. rw q (to (λ i. Slave.deaf) false passes all_deaf refl bs tt))
  advance (at_S write id address nth unconfirmed k e) true t =
      let p : Slave.Phase = Slave.byte_s write address nth unconfirmed in
      let p' : Slave.Phase = Slave.byte_s write address nth (unconfirmed + 1) in
      let again : Sim ks (Account.byte_s write id address nth (unconfirmed + 1)) (only id p') (Reader.byte_s write id address nth (ltb 0 (unconfirmed + 1)))
      = at_S write id address nth (unconfirmed + 1) k e in
      tested (ltb unconfirmed (delay k write nth))
      (λ q. rw (e, q)
      (to (only id p') false (speaks true t id p p' false k e (λ b. rw q))
      (rw (lt-ltb 0 (unconfirmed + 1) (omega arith)) at again) refl bs tt))
      (λ q. rw (e, q) (opens write id address nth unconfirmed k e t q))
  advance (in_read id address nth (suc left) w got k e h) m t =
      let what : ℕ = word data_bits (holds k address) in
      to (only id (Slave.sends address nth left what)) (bit (suc left) what)
      (speaks m t id (Slave.sends address nth (suc left) what) (Slave.sends address nth left what) _ k e (λ b. refl))
      (in_read id address nth left (push w m) _ k e (collects id address (suc left) got k e h)) refl bs tt
  advance (in_read id address nth zero w got k e h) m t =
      let v : ℕ = holds k address in
      let what : ℕ = word data_bits v in
      let whole : push got (bit zero what) ≡ what = collects id address zero got k e h ∙ div-one what in
      to (only id (Slave.ask_p false true address nth)) (bit zero what)
      (speaks m t id (Slave.sends address nth zero what) (Slave.ask_p false true address nth) _ k e (λ b. refl))
      (at_P false true id address nth k e)
      (rw (whole, accepted data_bits v, byte_word v (byte_at id address k e), e)) bs (rw e refl)
  advance (in_write id address nth (suc left) w k e) m t =
      to (only id (Slave.takes address nth left (push w m))) m
      (speaks m t id (Slave.takes address nth (suc left) w) (Slave.takes address nth left (push w m)) m k e (λ b. refl))
      (rw (beq_same m) (in_write id address nth left (push w m) k e)) refl bs tt
  advance (in_write id address nth zero w k e) m t =
      let v : ℕ = byte_of (push w m) in
      let p : Slave.Phase = Slave.takes address nth zero w in
      tested (fits data_bits (push w m))
      (λ q. rw q
      (to (only id (Slave.ask_p true true address nth)) m
      (rw (stored_set ks id address v k e)
      (column_one z z' m t id p k (Slave.ask_p true true address nth) m (stored k address v) (λ b. rw q) ks e))
      (at_P true true id address nth (stored k address v)
      (rw (stored_set ks id address v k e) (at_set ks id k (stored k address v) e)))
      (rw (beq_same m)) (bytes_stored ks id address v (byte_lt (push w m)) bs) tt))
      (λ q. rw q
      (to (only id (Slave.ask_p true false address nth)) m
      (speaks m t id p (Slave.ask_p true false address nth) m k e (λ b. rw q)) (at_P true false id address nth k e) refl bs tt))
  advance (at_P write good id address nth k e) m t =
      let p : Slave.Phase = Slave.ask_p write good address nth in
      let p' : Slave.Phase = Slave.byte_s write (address + 1) (nth + 1) 0 in
      tested (good && Slave.more k write address nth)
      (λ q. let room = (goes_on_lem k write good address nth q).0 in
      rw (e, q)
      (to (only id p') false (speaks m t id p p' false k e (λ b. rw q)) (rw room (at_S write id (address + 1) (nth + 1) 0 k e)) (rw room) bs tt))
      (λ q. rw (e, q) (to (λ i. Slave.deaf) true (goes_deaf m t id p true k e (λ b. rw q)) all_deaf refl bs tt))
  advance (at_acknowledge zero ids cmd so_far h) false t =
      to (λ i. Slave.deaf) false
      (column_turns z z' false t (λ i. Slave.acknowledge zero ids cmd (number i id_count)) (λ i. Slave.deaf) (λ i. false) refl (λ k i. refl) ks)
      all_deaf refl bs tt
  advance (at_acknowledge zero ids cmd so_far h) true t = acknowledges zero ids cmd so_far true h t (λ k o b. refl)
  advance (at_acknowledge (suc column) ids cmd so_far h) m t = acknowledges (suc column) ids cmd so_far m h t (λ k o b. refl)
  advance (at_EX ids cmd) false t =
      to (λ i. Slave.deaf) false
      (column_turns z z' false t (λ i. Slave.ask_ex cmd (concerns_at ids i)) (λ i. Slave.deaf) (λ i. false) refl (λ k i. refl) ks)
      all_deaf refl bs tt
  advance (at_EX ids cmd) true t =
      to (λ i. Slave.deaf) false
      (column_changes z z' true t (λ i. Slave.ask_ex cmd (concerns_at ids i)) (λ i. Slave.deaf) (λ i. false) (counted_at ids cmd) refl
      (λ k i. refl) ks)
      all_deaf refl (bytes_counted ids cmd 0 ks bs) tt
