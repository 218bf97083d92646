-- A built row is understood, shown of the account: the header says what was asked for, a byte carries what stands there or was lent,
-- and P goes on to the next. The columns of a header and of a byte are computed; byte follows byte by induction. Assumes nothing.
use mathlib.Core.Path.{◌≡◌, refl, ap, ap₂, ◌∙◌}
use mathlib.Core.Bool.{Bool, true, false, not, cond}
use mathlib.Core.List.{List, [], ◌∷◌, ◌++◌, append-nil, head-eq_of_cons-eq, tail-eq_of_cons-eq}
use mathlib.Core.Option.{some}
use Prim.Native.Nat.{ℕ, zero, suc, ◌+◌, ◌-◌, ◌*◌, ◌/◌, ◌^◌, ◌≤◌, ◌<◌}
use native.Mathlib.Nat.{add-zero, add_assoc, mul-suc, div-eq_of_lt, div-one}
use native.Mathlib.Numerals.{add-one}
use native.Mathlib.Omega.{arith}
use borrow.Author.Tests.{lt-ltb, le-ltb, ne_eqb}
use lib.ListN.{length, take, replicate, get_elem?}
use Rattle.protocol.specs.Limits.{rest_zeros, header_columns, address_count, byte_limit}
use Rattle.protocol.specs.Bits.{bits, push}
use Rattle.protocol.specs.Rest.{judge, timer}
use Rattle.protocol.specs.Division.{header_bits, data_bits, top_bit, word, fits, byte_of}
use Rattle.protocol.specs.Header.{Header, header, access_word, command_word}
use Rattle.protocol.specs.Commands.{execute_column}
use Rattle.protocol.specs.Memory.{Memory, allows, holds, stored, delay_by, delay}
use Rattle.protocol.specs.Slave.{more}
use Rattle.protocol.specs.Building.{frame_head, byte_columns, command_columns, frame_of, row_for}
use Rattle.protocol.specs.Building
use Rattle.protocol.specs.Entries.{Kind, event, Entry}
use Rattle.protocol.specs.Account.{Phase, ask_r, byte_s, carries, ask_p, acknowledge, ask_ex, acknowledge_next, Told, headed, asked, tell, begun, step, entries_along}
use Rattle.protocol.specs.Replay.{put}
use Rattle.protocol.specs.Understood.{frame_at, in_frame, Allowed, lock_shown, command_shown, execution_shown, delayed, byte_column, byte_shown, bytes_shown, standing, closing}
use Rattle.protocol.proofs.Words.{push_bit, word_lt, byte_word, header_access, header_command}
use Rattle.protocol.proofs.Division.{accepted}
use Rattle.laws.proofs.Every.{Every, tested, beq_not}
use Rattle.laws.proofs.Places.{at_set}
use Rattle.protocol.proofs.Memories.{Bytes, stored_set, allows_ahead}
use Rattle.protocol.proofs.Sim.{kept}
use Rattle.protocol.proofs.Commands.{execute_late}
use Rattle.protocol.proofs.Zeros.{asking, twelve_of, carrying, frame_asking, calm, header_calm, command_calm, access_calm}
use Rattle.protocol.proofs.Walk.{Walk, noted, walk, phases, account_walk, walk_phases}

-- The bits of a word, collected as they come, are the word.
pushed : ℕ → List Bool → ℕ
pushed w [] = w
pushed w (b ∷ bs) = pushed (push w b) bs

pushed_bits : (n w : ℕ) → w < 2 ^ 16 → pushed (w / 2 ^ n) (bits n w) ≡ w
unfolding pushed bits
pushed_bits zero w h = div-one w
pushed_bits (suc n) w h = ap (λ (u : ℕ). pushed u (bits n w)) (push_bit n w h) ∙ pushed_bits n w h

collected : (n w : ℕ) → w < 2 ^ 16 → w < 2 ^ n → pushed 0 (bits n w) ≡ w
collected n w h l = rw (div-eq_of_lt l) at (pushed_bits n w h)

-- An entry given, before what follows.
abbrev gave : {S : Type 0} → Entry → Walk S → Walk S
gave e w = noted e.place (some e.event) w

module _ (ks : List Memory) (v : ℕ) (next : List Bool) (small : v < 2 ^ header_bits) where
  -- What a header says in its last column, and what follows it.
  from_header : Header → Walk Phase
  from_header h =
      let t : Told = headed h in
      noted (frame_at (rest_zeros + header_columns)) t.says
      (phases (kept ks t.says) t.next (frame_at (rest_zeros + header_columns + 1)) next)

  header_shown : phases ks begun (frame_at (rest_zeros + 1)) (bits header_columns (word header_bits v) ++ next)
      ≡ gave (lock_shown ks) (from_header (header (word header_bits v)))
  unfolding phases tell bits put pushed from_header
  header_shown =
      ap (λ (w : ℕ). gave (lock_shown ks) (from_header (header w)))
      (collected header_columns (word header_bits v) (omega (arith, word_lt header_bits v small)) (word_lt header_bits v small))

  -- Fourteen zeros and S before it.
  frame_head_shown : Bytes ks → calm 0 (frame_head v ++ next) ≡ true
      → entries_along ks (replicate rest_zeros false ++ (frame_head v ++ next)) ≡ lock_shown ks ∷ (from_header (header (word header_bits v))).told
  unfolding walk step judge timer calm
  frame_head_shown bs z =
      account_walk ks _ bs
      ∙ ap (λ (w : Walk _). w.told) (walk_phases ks begun 0 (frame_at (rest_zeros + 1)) (bits header_columns (word header_bits v) ++ next) z)
      ∙ ap (λ (w : Walk _). w.told) header_shown

-- The memory after a byte; all but its registers is what it was ..
after : (write : Bool) → Memory → (address v : ℕ) → Memory
after write k address v =
    record {
      banks = k.banks;
      registers = cond write (stored k address v).registers k.registers;
      rights = k.rights;
      wait = k.wait;
      counts = k.counts;
    }

-- .. and what is allowed at the addresses that follow.
after_allows : (write : Bool) (k : Memory) (address v b : ℕ) → address < b → allows (after write k address v) write b ≡ allows k write b
unfolding after stored
after_allows false k address v b h = refl
after_allows true k address v b h = allows_ahead k true address v b h

-- The slave holds the ID and allows the access from byte i on: what was written may have changed the bank of the addresses before it.
record Ahead (ks : List Memory) (k : Memory) (write : Bool) (id address i count : ℕ) : Type 0 where
  held : get_elem? ks id ≡ some k
  there : address + count ≤ address_count
  few : count ≤ byte_limit
  allowed : (j : ℕ) → i ≤ j → j < count → allows k write (address + j) ≡ true

-- The bytes of a read are those that stand there; those of a write are below 256.
Carried : (write : Bool) → Memory → (address : ℕ) → List ℕ → Type 0
Carried false k address vs = standing k address (length vs) ≡ vs
Carried true k address vs = Every (λ v. v < 2 ^ data_bits) vs

carried_next : (write : Bool) (k : Memory) (address i v : ℕ) (vs : List ℕ) → Carried write k (address + i) (v ∷ vs)
    → Carried write (after write k (address + i) v) (address + (i + 1)) vs
unfolding Carried after standing
carried_next false k address i v vs h = rw (← add_assoc address i 1) (tail-eq_of_cons-eq h)
carried_next true k address i v vs h = h.1

-- An entry of the frame given, and what follows it from its phase on.
abbrev gives : List Memory → Entry → Phase → List Bool → Walk Phase
gives ks e q next = gave e (phases (put ks e.event) q (frame_at (suc e.place.column)) next)

-- The column of the first S of byte i.
abbrev asked_column : (wait : ℕ) → (write : Bool) → ℕ → ℕ
asked_column wait write i = rest_zeros + 1 + header_columns + 2 + (top_bit + 3) * i + wait * delayed write i

-- Byte 0 is asked for behind W.
first_asked : (wait : ℕ) (write : Bool) → asked_column wait write 0 ≡ rest_zeros + header_columns + 3
first_asked wait false = omega arith
first_asked wait true = omega arith

-- The columns in which byte i waits are those between its first S and the one that is confirmed.
confirmed_column : (wait : ℕ) (write : Bool) (i : ℕ) → asked_column wait write i + delay_by wait write (i + 1) ≡ byte_column wait write i
unfolding delay_by
confirmed_column wait false i = rw (mul-suc wait i) (omega arith)
confirmed_column wait true zero = omega arith
confirmed_column wait true (suc i) = rw (mul-suc wait i, ne_eqb (suc i + 1) 1 (λ e. omega arith)) (omega arith)

-- Byte i up to its P, behind a confirmed S.
carried_shown : (write : Bool) (i v : ℕ) (vs : List ℕ) (next : List Bool) {ks : List Memory} {k : Memory} {id address count : ℕ}
    → Ahead ks k write id address i count → Carried write k (address + i) (v ∷ vs)
    → phases ks (carries write id (address + i) (i + 1) top_bit 0) (frame_at (suc (byte_column k.wait write i))) (twelve_of write v ++ next)
    ≡ gives ks (byte_shown k.wait write id address i v) (ask_p write true id (address + i) (i + 1)) next
unfolding phases tell bits pushed put Carried standing
carried_shown false i v vs next {ks} {k} {id} {address} a h =
    ap₂ (λ (c u : ℕ). gives ks (in_frame c (event Kind.read id (address + i) u)) (ask_p false true id (address + i) (i + 1)) next)
    (omega arith) (rw a.held (head-eq_of_cons-eq h))
carried_shown true i v vs next {ks} {k} {id} {address} a h =
    let l : word data_bits v < 2 ^ (top_bit + 1) = word_lt data_bits v h.0 in
    ap₂ (λ (c u : ℕ). gives ks (in_frame c (event (cond (fits data_bits u) Kind.written Kind.writebad) id (address + i) (byte_of u)))
    (ask_p true (fits data_bits u) id (address + i) (i + 1)) next)
    {y = byte_column k.wait true i + (top_bit + 1)} (omega arith) (collected (top_bit + 1) (word data_bits v) (omega arith) l)
    ∙ rw (accepted data_bits v, byte_word v h.0)

-- R and W, and on to byte 0.
asked_shown : {ks : List Memory} {k : Memory} {write : Bool} {id address count : ℕ} → Ahead ks k write id address 0 count
    → (next : List Bool) → 0 < count
    → phases ks (ask_r id address) (frame_at (rest_zeros + header_columns + 1)) (not write ∷ write ∷ next)
    ≡ phases ks (byte_s write id (address + 0) 1 0) (frame_at (asked_column k.wait write 0)) next
unfolding phases tell asked
asked_shown {k = k} {write} {address = address} a next h =
    let r : allows k write address ≡ true = rw add-zero at (a.allowed 0 (omega arith) h) in
    rw (beq_not write, a.held, r, add-zero address, first_asked k.wait write)

module _ {ks : List Memory} {k : Memory} {write : Bool} {id address i count : ℕ} (a : Ahead ks k write id address i count) where
  -- S, as often as it is not confirmed, and then confirmed.
  waits_shown : (nth at : ℕ) (next : List Bool) (left unconfirmed c : ℕ) → unconfirmed + left ≡ delay k write nth
      → phases ks (byte_s write id at nth unconfirmed) (frame_at c) (replicate left true ++ true ∷ next)
      ≡ phases ks (carries write id at nth top_bit 0) (frame_at (suc (c + left))) next
  unfolding phases tell
  waits_shown nth at next zero unconfirmed c e = rw (a.held, le-ltb unconfirmed (delay k write nth) (omega arith), add-zero)
  waits_shown nth at next (suc left) unconfirmed c e =
      rw (a.held, lt-ltb unconfirmed (delay k write nth) (omega arith))
      (waits_shown nth at next left (unconfirmed + 1) (suc c) (omega arith)
      ∙ ap (λ (d : ℕ). phases ks (carries write id at nth top_bit 0) (frame_at d) next) (omega arith))

  -- Byte i up to its P.
  byte_shown_lem : (v : ℕ) (vs : List ℕ) → Carried write k (address + i) (v ∷ vs)
      → phases ks (byte_s write id (address + i) (i + 1) 0) (frame_at (asked_column k.wait write i)) (carrying write k.wait (i + 1) (v ∷ vs))
      ≡ gives ks (byte_shown k.wait write id address i v) (ask_p write true id (address + i) (i + 1))
      (false ∷ carrying write k.wait (i + 1 + 1) vs)
  unfolding byte_columns delay
  byte_shown_lem v vs h =
      waits_shown (i + 1) (address + i) _ (delay_by k.wait write (i + 1)) 0 (asked_column k.wait write i) (omega arith)
      ∙ rw (confirmed_column k.wait write i) (carried_shown write i v vs (false ∷ carrying write k.wait (i + 1 + 1) vs) a h)

  -- P of byte i, the last ..
  last_shown : (i : ℕ)
      → (phases ks (ask_p write true id (address + i) (i + 1)) (frame_at (suc (byte_column k.wait write i + (top_bit + 1)))) (false ∷ [])).told
      ≡ closing k write id address i
  unfolding phases tell
  last_shown i =
      let c : suc (byte_column k.wait write i + (top_bit + 1)) ≡ byte_column k.wait write i + (top_bit + 2) = omega arith in
      rw (a.held, c) (tested (more k write (address + i) (i + 1)) (λ q. rw q) (λ q. rw q))

  -- .. or not, and on to the next.
  goes_shown : (n : ℕ) (next : List Bool) → n + 1 ≡ i → i < count
      → phases ks (ask_p write true id (address + n) (n + 1)) (frame_at (suc (byte_column k.wait write n + (top_bit + 1)))) (false ∷ next)
      ≡ phases ks (byte_s write id (address + (n + 1)) (n + 1 + 1) 0) (frame_at (asked_column k.wait write (n + 1))) next
  unfolding phases tell more
  goes_shown n next e h =
      let c : suc (suc (byte_column k.wait write n + (top_bit + 1))) ≡ asked_column k.wait write (n + 1) = rw (add-one n) (omega arith) in
      let there : address + (n + 1) < address_count = omega (arith, a.there) in
      let few : n + 1 < byte_limit = omega (arith, a.few) in
      rw (a.held, add_assoc address n 1, lt-ltb _ _ there, a.allowed (n + 1) (omega arith) (omega arith), lt-ltb _ _ few, c)

  -- A byte takes no right away at those that follow.
  ahead_after : (v : ℕ)
      → Ahead (put ks (byte_shown k.wait write id address i v).event) (after write k (address + i) v) write id address (i + 1) count
  unfolding put after stored
  ahead_after v =
      record {
        held = held write;
        there = a.there;
        few = a.few;
        allowed = λ j l h. after_allows write k (address + i) v (address + j) (omega arith) ∙ a.allowed j (omega arith) h;
      }
    where
      held : (w : Bool) → get_elem? (put ks (byte_shown k.wait w id address i v).event) id ≡ some (after w k (address + i) v)
      held false = a.held
      held true = rw (stored_set ks id (address + i) v k a.held) (at_set ks id k (stored k (address + i) v) a.held)

-- Whether P closes hangs on what is allowed at the next address, and so not on the bytes written before.
closing_after : (write : Bool) (k : Memory) (id address i n v : ℕ) → i ≤ n
    → closing (after write k (address + i) v) write id address n ≡ closing k write id address n
unfolding more after
closing_after write k id address i n v h = rw (after_allows write k (address + i) v (address + n + 1) (omega arith))

-- Byte i and those after it, the last of them byte n.
bytes_shown_lem : (write : Bool) (i v n : ℕ) (vs : List ℕ) {ks : List Memory} {k : Memory} {id address : ℕ} → i + length vs ≡ n
    → Ahead ks k write id address i (suc n) → Carried write k (address + i) (v ∷ vs)
    → (phases ks (byte_s write id (address + i) (i + 1) 0) (frame_at (asked_column k.wait write i))
    (carrying write k.wait (i + 1) (v ∷ vs))).told
    ≡ bytes_shown k.wait write id address i (v ∷ vs) ++ closing k write id address n
unfolding bytes_shown byte_columns after
bytes_shown_lem write i v n [] {k = k} {id} {address} e a h =
    let last : n ≡ i = omega arith in
    rw (byte_shown_lem a v [] h, last_shown (ahead_after a v) i, last, closing_after write k id address i i v (omega arith))
bytes_shown_lem write i v n (w ∷ vs) {k = k} {id} {address} e a h =
    rw (
      byte_shown_lem a v (w ∷ vs) h,
      goes_shown (ahead_after a v) i (carrying write k.wait (i + 1 + 1) (w ∷ vs)) (omega arith) (omega arith),
      ← closing_after write k id address i n v (omega arith),
    )
    (ap (λ (l : List Entry). byte_shown k.wait write id address i v ∷ l)
    (bytes_shown_lem write (i + 1) w n vs (omega arith) (ahead_after a v) (carried_next write k address i v (w ∷ vs) h)))

length_standing : (k : Memory) (address n : ℕ) → length (standing k address n) ≡ n
unfolding standing
length_standing k address zero = refl
length_standing k address (suc n) = ap suc (length_standing k (address + 1) n)

-- The first thirty columns of a command's row are its header, whether it is executed or not.
header_alone : (ids cmd : ℕ) (execute : Bool)
    → take (rest_zeros + 1 + header_columns) (row_for (Building.command ids cmd execute)) ≡ replicate rest_zeros false ++ frame_head (command_word ids cmd)
unfolding row_for frame_of bits
header_alone ids cmd execute = refl

-- A command's columns between S and EX tell nothing.
acknowledged_shown : (ks : List Memory) (ids cmd : ℕ) (next : List Bool) (left column c : ℕ) → column + 1 + left ≡ execute_column ids
    → phases ks (acknowledge_next column ids cmd) (frame_at c) (replicate left false ++ next) ≡ phases ks (ask_ex ids cmd) (frame_at (c + left)) next
unfolding phases tell
acknowledged_shown ks ids cmd next zero column c e = rw (le-ltb (column + 1) (execute_column ids) (omega arith), add-zero)
acknowledged_shown ks ids cmd next (suc left) column c e =
    rw (lt-ltb (column + 1) (execute_column ids) (omega arith), add-one column)
    (acknowledged_shown ks ids cmd next left (suc column) (suc c) (omega arith)
    ∙ ap (λ (d : ℕ). phases ks (ask_ex ids cmd) (frame_at d) next) (omega arith))

-- Behind its header: S, those columns, and EX.
execution_shown_lem : (ks : List Memory) (ids cmd : ℕ) (execute : Bool)
    → (phases ks (acknowledge 0 ids cmd) (frame_at (rest_zeros + header_columns + 1)) (command_columns ids execute)).told
    ≡ execution_shown ids cmd execute ∷ []
unfolding phases tell
execution_shown_lem ks ids cmd execute =
    let c : ℕ = rest_zeros + header_columns + 2 in
    let on : rest_zeros + header_columns + 2 + (execute_column ids - 1) ≡ rest_zeros + header_columns + 1 + execute_column ids
    = omega (arith, execute_late ids) in
    rw on at (ap (λ (w : Walk Phase). w.told)
    (acknowledged_shown ks ids cmd (execute ∷ []) (execute_column ids - 1) 0 c (omega (arith, execute_late ids))))

-- The accounts of the three requests.
module _ (ks : List Memory) (bs : Bytes ks) where
  access_shown : (write : Bool) (k : Memory) (id address v : ℕ) (vs : List ℕ) → Allowed ks k write id address (suc (length vs))
      → Carried write k address (v ∷ vs) → entries_along ks (row_for (asking write id address (v ∷ vs) k.wait))
      ≡ lock_shown ks ∷ bytes_shown k.wait write id address 0 (v ∷ vs) ++ closing k write id address (length vs)
  unfolding row_for headed from_header
  access_shown write k id address v vs a h =
      let next : List Bool = carrying write k.wait 1 (v ∷ vs) in
      let all : Ahead ks k write id address 0 (suc (length vs))
      = record { held = a.held; there = a.there; few = a.few; allowed = λ j l u. a.allowed j u } in
      rw (
        frame_asking write id address (v ∷ vs) k.wait,
        frame_head_shown ks (access_word id address) (not write ∷ write ∷ next) (omega arith) bs
            (rw frame_asking at (access_calm write id address (v ∷ vs) k.wait a.numbered (omega arith))),
        header_access id address a.numbered (omega arith),
        asked_shown all next (omega arith),
        bytes_shown_lem write 0 v (length vs) vs (omega arith) all (rw add-zero h),
      )

  pub read_shown : (k : Memory) (id address n : ℕ) → Allowed ks k false id address (suc n)
      → entries_along ks (row_for (Building.read id address (suc n) k.wait))
      ≡ lock_shown ks ∷ bytes_shown k.wait false id address 0 (standing k address (suc n)) ++ closing k false id address n
  unfolding standing Carried
  read_shown k id address n a =
      let l : length (standing k (address + 1) n) ≡ n = length_standing k (address + 1) n in
      rw l at (access_shown false k id address (holds k address) (standing k (address + 1) n) (rw l a) (rw l))

  pub write_shown : (k : Memory) (id address v : ℕ) (vs : List ℕ) → Allowed ks k true id address (suc (length vs))
      → Every (λ v. v < 2 ^ data_bits) (v ∷ vs) → entries_along ks (row_for (Building.write id address (v ∷ vs) k.wait))
      ≡ lock_shown ks ∷ bytes_shown k.wait true id address 0 (v ∷ vs) ++ closing k true id address (length vs)
  unfolding Carried
  write_shown k id address v vs a h = access_shown true k id address v vs a h

  pub command_shown_lem : (ids cmd : ℕ) (execute : Bool) → ids < 2 ^ 8 → cmd < 2 ^ 2
      → entries_along ks (row_for (Building.command ids cmd execute))
      ≡ lock_shown ks ∷ command_shown ids cmd ∷ execution_shown ids cmd execute ∷ []
  unfolding row_for frame_of headed from_header put
  command_shown_lem ids cmd execute h l =
      rw (header_command ids cmd h l, execution_shown_lem ks ids cmd execute)
      at (frame_head_shown ks (command_word ids cmd) (command_columns ids execute) (omega arith) bs
      (command_calm ids cmd execute (omega arith)))

  pub header_shown_alone : (ids cmd : ℕ) (execute : Bool) → ids < 2 ^ 8 → cmd < 2 ^ 2
      → entries_along ks (take (rest_zeros + 1 + header_columns) (row_for (Building.command ids cmd execute))) ≡ lock_shown ks ∷ command_shown ids cmd ∷ []
  unfolding headed from_header phases
  header_shown_alone ids cmd execute h l =
      let v : ℕ = command_word ids cmd in
      rw (header_alone ids cmd execute)
      (rw (header_command ids cmd h l, append-nil)
      at (frame_head_shown ks v [] (omega arith) bs (rw append-nil (header_calm v (omega arith)))))
