-- The account's writes are rightful: each goes to a slave that holds its ID and allows it there. So the bank that an honest list names is the
-- one that the slave's bank register names. Assumes nothing.
use mathlib.Core.Path.{◌≡◌, refl, sym, ap, ◌∙◌}
use mathlib.Core.Bool.{Bool, true, false, ◌&&◌, beq, false≢true}
use mathlib.Core.List.{List, [], ◌∷◌}
use mathlib.Core.Option.{Option, none, some}
use Prim.Native.Nat.{ℕ, zero, suc, ◌+◌, ◌*◌, ◌<◌}
use native.Mathlib.Omega.{arith}
use borrow.Author.Tests.{ltb-true, ltb-false, eqb-true, eqb-false}
use lib.Dec.{ltb, eqb}
use lib.ListN.{length, get_or, get_elem?, get_or-eq_default}
use lib.Seq.{get_or-set_same, get_or-set_other}
use Rattle.protocol.specs.Limits.{header_columns, id_count, lock_last, bank_size, bank_register}
use Rattle.protocol.specs.Bits.{num, bit, push}
use Rattle.protocol.specs.Rest.{Timed, power_on}
use Rattle.protocol.specs.Machine.{listing}
use Rattle.protocol.specs.Division.{data_bits, fits}
use Rattle.protocol.specs.Header.{Header, wrong, access, command, header}
use Rattle.protocol.specs.Commands.{concerns_at, execute_column}
use Rattle.protocol.specs.Memory.{Memory, chosen, place_of, allows, stored, counted}
use Rattle.protocol.specs.Entries.{Kind, is, Event, Place, opened, onward, Entry, note}
use Rattle.protocol.specs.Banks.{no_bank, learnt, told_after, bank_of, banked}
use Rattle.protocol.specs.Account.{Phase, deaf, locks, head, ask_r, ask_w, byte_s, carries, ask_p, acknowledge, ask_ex, Told, slave_at, delay_at, more_at, headed, asked, tell, begun, Step, step, entries_along}
use Rattle.protocol.specs.Replay.{stored_at, by_place, counted_at, put, MayAt, WhenWritten, Rightful, chosen_at, BanksStand}
use Rattle.laws.proofs.Every.{Every, IfAny, either, tested, looked_up, or_left}
use Rattle.protocol.proofs.Words.{LowId, header_low}
use Rattle.protocol.proofs.Memories.{Bytes, stored_size, chosen_stays, goes_on_lem}
use Rattle.protocol.proofs.Machine.{At, judged}
use Rattle.protocol.proofs.Sim.{kept}
use Rattle.protocol.proofs.Walk.{walk, account_walk}
use Rattle.protocol.proofs.Banks.{length_learnt}

-- What a phase of the account knows: an ID is one of the eight, and a byte that was asked for is allowed.
abbrev Ready : List Memory → Phase → Type 0
Ready ks deaf = Unit {0}
Ready ks (locks column so_far) = Unit {0}
Ready ks (head column so_far) = Unit {0}
Ready ks (ask_r id address) = id < id_count
Ready ks (ask_w id address r) = id < id_count
Ready ks (byte_s write id address nth unconfirmed) = (id < id_count) × MayAt (slave_at ks id) write address
Ready ks (carries write id address nth left so_far) = (id < id_count) × MayAt (slave_at ks id) write address
Ready ks (ask_p write good id address nth) = id < id_count
Ready ks (acknowledge column ids cmd) = Unit {0}
Ready ks (ask_ex ids cmd) = Unit {0}

-- A column leads from what a phase knows to what the next one knows, and writes rightfully.
abbrev Right : List Memory → Told → Type 0
Right ks t = Ready (kept ks t.says) t.next × IfAny (λ e. WhenWritten (is Kind.written e) ks e) t.says

module _ (ks : List Memory) where
  right_headed : (h : Header) → LowId h → Right ks (headed h)
  unfolding headed put
  right_headed wrong low = (tt, tt)
  right_headed (access id address) low = (low, tt)
  right_headed (command ids cmd) low = (tt, tt)

  right_asked : (id address : ℕ) (w : Bool) → id < id_count → Right ks (asked (slave_at ks id) id address w)
  unfolding asked put
  right_asked id address w low =
      looked_up (get_elem? ks id) (λ e. rw e (tt, tt))
      (λ k e. tested (allows k w address) (λ q. rw (e, q) ((low, rw e q), tt)) (λ q. rw (e, q) (tt, tt)))

  -- P: the next address is allowed.
  may_go_on : (id address nth : ℕ) (write good : Bool) → good && more_at (slave_at ks id) write address nth ≡ true
      → MayAt (slave_at ks id) write (address + 1)
  may_go_on id address nth write good h =
      looked_up (get_elem? ks id) (λ e. absurd (false≢true (sym (nothing good) ∙ (rw e at h))))
      (λ k e. rw e (goes_on_lem k write good address nth (rw e at h)).1)
    where
      nothing : (b : Bool) → b && false ≡ false
      nothing true = refl
      nothing false = refl

  right_tell : (p : Phase) (m : Bool) → Ready ks p → Right ks (tell ks p m)
  unfolding tell put
  right_tell deaf m h = (tt, tt)
  right_tell (locks column so_far) m h = either (Right ks) (ltb column lock_last) (tt, tt) (tt, tt)
  right_tell (head column so_far) m h =
      either (Right ks) (ltb column header_columns) (tt, tt) (right_headed (header (push so_far m)) (header_low (push so_far m)))
  right_tell (ask_r id address) m h = (h, tt)
  right_tell (ask_w id address r) m h = either (Right ks) (beq r m) (tt, tt) (right_asked id address m h)
  right_tell (byte_s write id address nth unconfirmed) false h = either (Right ks) (ltb 0 unconfirmed) (tt, tt) (tt, tt)
  right_tell (byte_s write id address nth unconfirmed) true h =
      either (Right ks) (ltb unconfirmed (delay_at (slave_at ks id) write nth)) (h, tt) (h, tt)
  right_tell (carries write id address nth (suc left) so_far) m h = (h, tt)
  right_tell (carries false id address nth zero so_far) m h = (h.0, tt)
  right_tell (carries true id address nth zero so_far) m h =
      tested (fits data_bits (push so_far m)) (λ q. rw q (h.0, h)) (λ q. rw q (h.0, tt))
  right_tell (ask_p write good id address nth) m h =
      tested (good && more_at (slave_at ks id) write address nth)
      (λ q. rw q ((h, may_go_on id address nth write good q), tt)) (λ q. rw q (tt, tt))
  right_tell (acknowledge zero ids cmd) false h = (tt, tt)
  right_tell (acknowledge zero ids cmd) true h = (either (Ready ks) (ltb 1 (execute_column ids)) tt tt, tt)
  right_tell (acknowledge (suc column) ids cmd) m h = (either (Ready ks) (ltb (suc column + 1) (execute_column ids)) tt tt, tt)
  right_tell (ask_ex ids cmd) false h = (tt, tt)
  right_tell (ask_ex ids cmd) true h = (tt, tt)

  -- .. behind the timer.
  abbrev RightStep : Step → Type 0
  RightStep t = At (Ready (kept ks t.says)) t.state × IfAny (λ e. WhenWritten (is Kind.written e) ks e) t.says

  right_step : (s : Timed Phase) (m : Bool) → At (Ready ks) s → RightStep (step ks s m)
  unfolding step put
  right_step s m h =
      judged (Ready ks) {begun = begun} tt (λ j. RightStep (listing (λ p. tell ks p m) j)) (λ r k. (k, tt)) (tt, tt)
      (λ z p k. right_tell p m k) s m h

right_walk : (row : List Bool) (ks : List Memory) (s : Timed Phase) (p : Place) → At (Ready ks) s → Rightful ks (walk ks s p row).told
unfolding walk Rightful
right_walk [] ks s p h = tt
right_walk (m ∷ row) ks s p h =
    let t : Step = step ks s m in
    let now : RightStep ks t = right_step ks s m h in
    go t.says now.1 _ (right_walk row (kept ks t.says) t.state (onward t.state p) now.0)
  where
    go : (o : Option Event) → IfAny (λ e. WhenWritten (is Kind.written e) ks e) o → (es : List Entry) → Rightful (kept ks o) es
        → Rightful ks (note p o es)
    go none q es r = r
    go (some e) q es r = (q, r)

pub rightful : (ks : List Memory) (row : List Bool) → Bytes ks → Rightful ks (entries_along ks row)
rightful ks row bs = rw (account_walk ks row bs) (right_walk row ks power_on (opened 0) tt)

-- As many rights as registers.
abbrev pub Paired : Memory → Type 0
Paired k = length k.rights ≡ length k.registers

paired_stored : (ks : List Memory) (id address v : ℕ) → Every Paired ks → Every Paired (stored_at ks id address v)
unfolding stored_at stored
paired_stored [] id address v h = tt
paired_stored (k ∷ ks) zero address v h = (h.0 ∙ sym (stored_size k address v), h.1)
paired_stored (k ∷ ks) (suc id) address v h = (h.0, paired_stored ks id address v h.1)

paired_counted : (ids cmd i : ℕ) (ks : List Memory) → Every Paired ks → Every Paired (by_place (counted_at ids cmd) i ks)
unfolding by_place counted
paired_counted ids cmd i [] h = tt
paired_counted ids cmd i (k ∷ ks) h = (either Paired (concerns_at ids i) h.0 h.0, paired_counted ids cmd (suc i) ks h.1)

paired_put : (ks : List Memory) (e : Event) → Every Paired ks → Every Paired (put ks e)
unfolding put
paired_put ks e h =
    either (Every Paired) (is Kind.written e) (paired_stored ks e.id e.address e.value h)
    (either (Every Paired) (is Kind.executed e) (paired_counted e.value e.id 0 ks h) h)

-- A right that allows something lies among the rights.
right_inside : (rights : List ℕ) (i : ℕ) → bit (num true) (get_or rights i 0) ≡ true → i < length rights
unfolding bit
right_inside rights i h =
    tested (ltb i (length rights)) (λ q. ltb-true i (length rights) q)
    (λ q. absurd (false≢true (rw (get_or-eq_default rights 0 (ltb-false i (length rights) q)) at h)))

-- What is written at the bank register stands there, and chooses.
chosen_stored : (k : Memory) (v : ℕ) → Paired k → allows k true bank_register ≡ true → chosen (stored k bank_register v) ≡ v
unfolding allows stored chosen place_of bit
chosen_stored k v p h =
    tested (eqb k.banks 1) (λ q. absurd (false≢true (rw q at h)))
    (λ q.
    let here : bank_size * k.banks + 0 ≡ bank_size * k.banks = omega arith in
    let there : bank_size * k.banks < length k.rights = right_inside k.rights (bank_size * k.banks) (rw (q, here) at h) in
    rw (q, here) (get_or-set_same k.registers (bank_size * k.banks) v 0 (omega (arith, p))))

chosen_here : (ks : List Memory) (id v : ℕ) → Every Paired ks → MayAt (get_elem? ks id) true bank_register
    → chosen_at (get_elem? (stored_at ks id bank_register v) id) ≡ v
unfolding stored_at
chosen_here [] id v ps h = absurd h
chosen_here (k ∷ ks) zero v ps h = chosen_stored k v ps.0 h
chosen_here (k ∷ ks) (suc id) v ps h = chosen_here ks id v ps.1 h

-- What is written elsewhere chooses nothing.
chosen_elsewhere : (ks : List Memory) (id address v j : ℕ) → (id ≡ j → address ≡ bank_register → ⊥)
    → chosen_at (get_elem? (stored_at ks id address v) j) ≡ chosen_at (get_elem? ks j)
unfolding stored_at
chosen_elsewhere [] id address v j h = refl
chosen_elsewhere (k ∷ ks) zero address v zero h = chosen_stays k address v (h refl)
chosen_elsewhere (k ∷ ks) zero address v (suc j) h = refl
chosen_elsewhere (k ∷ ks) (suc id) address v zero h = refl
chosen_elsewhere (k ∷ ks) (suc id) address v (suc j) h = chosen_elsewhere ks id address v j (λ e. h (ap suc e))

-- .. and a count chooses nothing.
chosen_counted : (ids cmd i : ℕ) (ks : List Memory) (j : ℕ)
    → chosen_at (get_elem? (by_place (counted_at ids cmd) i ks) j) ≡ chosen_at (get_elem? ks j)
unfolding by_place counted chosen
chosen_counted ids cmd i [] j = refl
chosen_counted ids cmd i (k ∷ ks) zero = either (λ (l : Memory). chosen l ≡ chosen k) (concerns_at ids i) refl refl
chosen_counted ids cmd i (k ∷ ks) (suc j) = chosen_counted ids cmd (suc i) ks j

-- What is known of the IDs that were told stands in their bank registers ..
abbrev Stands : (told : ℕ → Bool) → (known : List ℕ) → List Memory → Type 0
Stands told known ks = (id : ℕ) → told id ≡ true → get_or known id no_bank ≡ chosen_at (get_elem? ks id)

-- .. and so behind an event.
stands_on : (told : ℕ → Bool) (known : List ℕ) (ks : List Memory) (e : Event) → length known ≡ id_count → Every Paired ks
    → WhenWritten (is Kind.written e) ks e → Stands told known ks → Stands (told_after told e) (learnt known e) (put ks e)
unfolding learnt put
stands_on told known ks e n ps r s id t =
    tested (is Kind.written e)
    (λ w. tested (eqb e.address bank_register)
    (λ b. tested (eqb e.id id)
    (λ i.
    let low : e.id < length known = omega (arith, n, (rw w at r).0) in
    rw (w, b, ← eqb-true e.id id i, eqb-true e.address bank_register b)
    (get_or-set_same known e.id e.value no_bank low
    ∙ sym (chosen_here ks e.id e.value ps (rw (eqb-true e.address bank_register b) at (rw w at r).1))))
    (λ i. rw (w, b)
    (get_or-set_other known e.id id e.value no_bank (λ q. other i q)
    ∙ s id (or_left (told id) (rw (w, b, i) at t))
    ∙ sym (chosen_elsewhere ks e.id e.address e.value id (λ q a. other i (sym q))))))
    (λ b. rw (w, b)
    (s id (or_left (told id) (rw (w, b) at t))
    ∙ sym (chosen_elsewhere ks e.id e.address e.value id (λ q a. eqb-false e.address bank_register b a)))))
    (λ w. tested (is Kind.executed e)
    (λ x. rw (w, x) (s id (or_left (told id) (rw w at t)) ∙ sym (chosen_counted e.value e.id 0 ks id)))
    (λ x. rw (w, x) (s id (or_left (told id) (rw w at t)))))
  where
    other : eqb e.id id ≡ false → id ≡ e.id → ⊥
    other i q = eqb-false e.id id i (sym q)

pub banks_stand : (told : ℕ → Bool) (known : List ℕ) (ks : List Memory) (es : List Entry) → length known ≡ id_count → Every Paired ks
    → Rightful ks es → Stands told known ks → BanksStand told ks (banked known es)
unfolding BanksStand banked bank_of Rightful
banks_stand told known ks [] n ps r s = tt
banks_stand told known ks (e ∷ es) n ps r s = (
  λ named t. rw named (s e.event.id t),
  banks_stand (told_after told e.event) (learnt known e.event) (put ks e.event) es (length_learnt known e.event ∙ n) (paired_put ks e.event ps) r.1
      (stands_on told known ks e.event n ps r.0 s),
)
