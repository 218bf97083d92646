-- One slave over a row, column by column: the place that its address shows, what it has sent and what it has yet to send. Assumes nothing.
use mathlib.Core.Path.{◌≡◌, refl, sym, ap, ◌∙◌}
use mathlib.Core.Bool.{Bool, true, false}
use mathlib.Core.List.{List, [], ◌++◌, map, append-nil, append_assoc}
use mathlib.Core.Option.{Option}
use Rattle.std.specs.Prelude.{Option as Maybe, Some, None}
use Rattle.std.specs.Bool.{then_some}
use Prim.Native.Nat.{ℕ, suc, ◌+◌, ◌*◌, ◌≤◌, ◌<◌}
use native.Mathlib.Numerals.{add-one}
use native.Mathlib.Omega.{arith}
use mir.Val.{bool_byte}
use lib.Dec.{ltb}
use lib.ListN.{length, take, drop, get_or, set, drop_of_length-le}
use lib.Seq.{drop-cons, take_all, take-suc-set, drop-set-lt}
use Rattle.protocol.specs.Limits.{bank_size}
use Rattle.protocol.specs.Bits.{num, bit_of, row_of}
use Rattle.protocol.specs.Memory.{Memory, in_bank, chosen, allows, holds, stored, counted}
use Rattle.protocol.specs.Slave as protocol
use Rattle.laws.proofs.Every.{tested}
use Rattle.protocol.proofs.Dress.{step_to}
use Rattle.slave.specs.Code.{option_of, state_of, address_of, stored_by, ran_by, SeenIn, Stepped}
use Rattle.slave.specs.declared.Slave.{Slave}
use Rattle.slave.specs.declared.Reply.{Reply}
use Rattle.run.specs.Parts.{sent_by, after_by, memory_by, new_by, counts_by, kept, shown_in, seen_by, Passed}

bool_num : (b : Bool) → bool_byte b ≡ num b
bool_num true = refl
bool_num false = refl

-- The place in a bank that is held.
pub in_bank_held : (banks chosen address : ℕ) → option_of (then_some (ltb chosen banks) (bank_size * chosen + address)) ≡ in_bank banks chosen address
in_bank_held banks chosen address = tested (ltb chosen banks) (λ q. rw q) (λ q. rw q)

-- A column of the code is a step over the slave's own registers, rights and counts.
module _ (banks : ℕ) (registers rights : List ℕ) (wait : ℕ) (counts : List ℕ) where
  abbrev own : Memory
  own = memory_by banks registers rights wait counts

  there : (m b : Bool) (address : Maybe ℕ) → SeenIn own address (seen_by m b rights registers (shown_in banks registers address) wait)
  unfolding allows holds chosen
  there m b None = tt
  there m b (Some address) = record { right_there = λ write. refl; byte_there = refl; wait_there = refl }

  stored_own : (address stored : Maybe ℕ) → stored_by stored address own
      ≡ memory_by banks (kept registers (shown_in banks registers address) stored) rights wait counts
  unfolding stored chosen
  stored_own address None = refl
  stored_own None (Some value) = refl
  stored_own (Some address) (Some value) = refl

  ran_own : (l : List ℕ) (ran : Maybe ℕ) → ran_by ran (memory_by banks l rights wait counts) ≡ memory_by banks l rights wait (counts_by ran counts)
  unfolding counted
  ran_own l None = refl
  ran_own l (Some code) = refl

  pub own_step : (s : Slave) (p : Option ℕ) (m b : Bool) (r : Slave × Reply) → p ≡ shown_in banks registers (address_of s)
      → Stepped s (seen_by m b rights registers p wait) r
      → protocol.step (protocol.slave own (state_of s)) m b
      ≡ step_to (memory_by banks (kept registers p r.1.stored) rights wait (counts_by r.1.ran counts)) (state_of r.0) r.1.sent
  own_step s p m b r here stepped =
      let address : Maybe ℕ = address_of s in
      rw (here, ← ran_own (kept registers (shown_in banks registers address) r.1.stored) r.1.ran, ← stored_own address r.1.stored)
      (stepped own (rw here (there m b address)))

-- A column: what is sent goes over to what was sent.
module _ (s : protocol.Slave) (t : protocol.Step) (cdm cds : List ℕ) (i : ℕ) (small : i < length cdm) (room : i < length cds)
    (stepped : protocol.step s (bit_of (get_or cdm i 0)) (bit_of (get_or cds i 0)) ≡ t) where
  abbrev sent : Bool
  sent = t.says.sent

  behind : drop (suc i) (set cds i (bool_byte sent)) ≡ drop (suc i) cds
  behind = drop-set-lt (suc i) cds i (bool_byte sent) (omega arith)

  pub sent_next : take i cds ++ map num (sent_by s (row_of (drop i cdm)) (row_of (drop i cds)))
      ≡ take (i + 1) (set cds i (bool_byte sent))
      ++ map num (sent_by (protocol.slave_of t) (row_of (drop (i + 1) cdm)) (row_of (drop (i + 1) (set cds i (bool_byte sent)))))
  unfolding row_of sent_by
  sent_next =
      rw (
        drop-cons cdm i 0 small,
        drop-cons cds i 0 room,
        stepped,
        add-one,
        behind,
        take-suc-set cds i (bool_byte sent) room,
        append_assoc,
        bool_num sent,
      )

  pub after_next : after_by s (row_of (drop i cdm)) (row_of (drop i cds))
      ≡ after_by (protocol.slave_of t) (row_of (drop (i + 1) cdm)) (row_of (drop (i + 1) (set cds i (bool_byte sent))))
  unfolding row_of after_by
  after_next =
      rw (drop-cons cdm i 0 small, drop-cons cds i 0 room, add-one, behind)
      (ap (λ (r : protocol.Step). after_by (protocol.slave_of r) (row_of (drop (suc i) cdm)) (row_of (drop (suc i) cds))) stepped)

-- Past the last column.
pub passed : (banks : ℕ) (rights : List ℕ) (wait : ℕ) (registers cdm cds registers' counts' cds' : List ℕ) (s : Slave) (i : ℕ)
    → length cdm ≤ i → length cds' ≤ i
    → take i cds'
    ++ map num
    (sent_by (protocol.slave (memory_by banks registers' rights wait counts') (state_of s)) (row_of (drop i cdm)) (row_of (drop i cds')))
    ≡ map num (sent_by (new_by banks registers rights wait) (row_of cdm) (row_of cds))
    → after_by (protocol.slave (memory_by banks registers' rights wait counts') (state_of s)) (row_of (drop i cdm)) (row_of (drop i cds'))
    ≡ after_by (new_by banks registers rights wait) (row_of cdm) (row_of cds)
    → Passed banks rights wait registers cdm cds registers' counts' cds'
unfolding row_of sent_by after_by
passed banks rights wait registers cdm cds registers' counts' cds' s i past full a e =
    let ends : drop i cdm ≡ [] = drop_of_length-le cdm past in
    record {
      sent = sym (append-nil cds') ∙ rw (ends, take_all i cds' full) at a;
      memory_after = ap (λ (l : protocol.Slave). l.memory) (rw ends at e);
    }
