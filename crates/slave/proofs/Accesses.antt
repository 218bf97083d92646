-- The columns of a register access, a law for each branch of the code, in the branch's own words. Assumes nothing.
use mathlib.Core.Path.{◌≡◌, refl, sym, ap, ◌∙◌}
use mathlib.Core.Bool.{Bool, true, false, not, ◌&&◌, beq}
use Rattle.std.specs.Prelude.{Some}
use Rattle.std.specs.Bool.{then_some}
use Prim.Native.Nat.{ℕ, zero, suc, ◌+◌, ◌-◌, ◌/◌, ◌%◌, ◌^◌, ◌≤◌, ◌<◌}
use native.Mathlib.Omega.{arith}
use borrow.Author.Tests.{lt-ltb, le-ltb, eq-eqb, ne_eqb, ltb-true, ltb-false}
use lib.Dec.{ltb, eqb}
use Rattle.protocol.specs.Limits.{address_count, byte_limit}
use Rattle.protocol.specs.Bits.{num, bit, push}
use Rattle.protocol.specs.Division.{data_bits, check_width, top_bit, word, fits, byte_of}
use Rattle.protocol.specs.Memory.{Memory, delay_by, delay}
use Rattle.protocol.specs.Slave as protocol
use Rattle.laws.proofs.Every.{both, tested}
use Rattle.slave.specs.Code.{counts, before, stored_by, next_address, SeenAt, goes_on}
use Rattle.slave.specs.declared.phase.Passed.{Passed}
use Rattle.slave.specs.declared.Seen.{Seen}

-- What is seen is how long the memory waits.
seen_delay : (k : Memory) (write : Bool) (address nth : ℕ) (seen : Seen) → SeenAt k address seen
    → delay k write nth ≡ delay_by seen.wait write nth
unfolding delay
seen_delay k write address nth seen s = ap (λ (w : ℕ). delay_by w write nth) s.wait_there

-- W: R and W alike; the right allows the access; it does not.
pub ask_alike : (k : Memory) (address : ℕ) (r m b : Bool) → not (beq r m) ≡ false
    → protocol.speak k (protocol.ask_w address r) m b ≡ protocol.turn protocol.deaf (not m) k
unfolding protocol.speak
ask_alike k address r m b h = rw h

module _ (k : Memory) (address : ℕ) (r b : Bool) (seen : Seen) where
  pub ask_allowed : {f : Bool} → SeenAt k address seen → not (beq r seen.master) ≡ true
      → f ≡ bit (num seen.master) seen.right → f ≡ true
      → protocol.speak k (protocol.ask_w address r) seen.master b ≡ protocol.turn (protocol.byte_s seen.master address 1 0) seen.master k
  unfolding protocol.speak
  ask_allowed s h e t = rw (h, s.right_there seen.master, ← e, t)

  pub ask_refused : {f : Bool} → SeenAt k address seen → not (beq r seen.master) ≡ true
      → f ≡ bit (num seen.master) seen.right → f ≡ false
      → protocol.speak k (protocol.ask_w address r) seen.master b ≡ protocol.turn protocol.deaf (not seen.master) k
  unfolding protocol.speak
  ask_refused s h e t = rw (h, s.right_there seen.master, ← e, t)

-- S: a 0; not confirmed yet; a byte to write; a byte to read.
module _ (k : Memory) (address nth unconfirmed : ℕ) (write b : Bool) {m : Bool} where
  pub byte_ends : m ≡ false → protocol.speak k (protocol.byte_s write address nth unconfirmed) m b ≡ protocol.turn protocol.deaf false k
  unfolding protocol.speak
  byte_ends e = rw e

  module _ (seen : Seen) {d : ℕ} (s : SeenAt k address seen) (e : m ≡ true) (p : d ≡ delay_by seen.wait write nth) where
    pub byte_waits : unconfirmed < d
        → protocol.speak k (protocol.byte_s write address nth unconfirmed) m b
        ≡ protocol.turn (protocol.byte_s write address nth (unconfirmed + 1)) false k
    unfolding protocol.speak
    byte_waits l = rw (e, seen_delay k write address nth seen s, ← p, lt-ltb unconfirmed d l)

    confirms : d ≤ unconfirmed
        → protocol.speak k (protocol.byte_s write address nth unconfirmed) m b ≡ protocol.turn (protocol.confirmed k write address nth) true k
    unfolding protocol.speak
    confirms l = rw (e, seen_delay k write address nth seen s, ← p, le-ltb unconfirmed d l)

    pub byte_takes : d ≤ unconfirmed → write ≡ true
        → protocol.speak k (protocol.byte_s write address nth unconfirmed) m b ≡ protocol.turn (protocol.takes address nth top_bit 0) true k
    byte_takes l f = confirms l ∙ rw f

    pub byte_sends : {w : ℕ} → d ≤ unconfirmed → write ≡ false → w ≡ word data_bits seen.byte
        → protocol.speak k (protocol.byte_s write address nth unconfirmed) m b ≡ protocol.turn (protocol.sends address nth top_bit w) true k
    byte_sends l f g = confirms l ∙ rw (f, s.byte_there, g)

-- An address, and the one before the next.
around : (a : ℕ) → before (next_address a % address_count) ≡ a % address_count
around a = omega arith

-- The bits of a byte that is read, and the last.
module _ (k : Memory) (a nth w : ℕ) (m b : Bool) (left : ℕ) where
  pub sends_on : (left % counts ≡ 0 → ⊥)
      → protocol.speak k (protocol.sends (a % address_count) nth (left % counts) w) m b
      ≡ protocol.turn (protocol.sends (a % address_count) nth ((left % counts - 1) % counts) w) (eqb (w / 2 ^ (left % counts) % 2) 1) k
  unfolding protocol.speak bit
  sends_on h = go (left % counts) h (omega arith)
    where
      go : (n : ℕ) → (n ≡ 0 → ⊥) → n < counts
          → protocol.speak k (protocol.sends (a % address_count) nth n w) m b
          ≡ protocol.turn (protocol.sends (a % address_count) nth ((n - 1) % counts) w) (eqb (w / 2 ^ n % 2) 1) k
      go zero h l = absurd (h refl)
      go (suc n) h l = let e : (suc n - 1) % counts ≡ n = omega arith in rw e

  pub sends_last : left % counts ≡ 0
      → protocol.speak k (protocol.sends (a % address_count) nth (left % counts) w) m b
      ≡ protocol.turn (protocol.ask_p false true (before (next_address a % address_count)) nth) (eqb (w / 2 ^ (left % counts) % 2) 1) k
  unfolding protocol.speak bit
  sends_last h = rw (h, around a)

-- The bits of a byte that is written; the last, with the check right and wrong.
module _ (k : Memory) (a nth w : ℕ) (m b : Bool) (left : ℕ) {w' : ℕ} where
  pub takes_on : 0 < left % counts → w' ≡ push w m
      → protocol.speak k (protocol.takes (a % address_count) nth (left % counts) w) m b
      ≡ protocol.turn (protocol.takes (a % address_count) nth ((left % counts - 1) % counts) w') m k
  unfolding protocol.speak
  takes_on h e = go (left % counts) h (omega arith)
    where
      go : (n : ℕ) → 0 < n → n < counts
          → protocol.speak k (protocol.takes (a % address_count) nth n w) m b
          ≡ protocol.turn (protocol.takes (a % address_count) nth ((n - 1) % counts) w') m k
      go zero h l = absurd (omega arith)
      go (suc n) h l = let q : (suc n - 1) % counts ≡ n = omega arith in rw (q, e)

  pub takes_last : {f : Bool} → left % counts ≤ 0 → w' ≡ push w m → f ≡ fits data_bits w'
      → protocol.speak k (protocol.takes (a % address_count) nth (left % counts) w) m b
      ≡ protocol.turn (protocol.ask_p true f (before (next_address a % address_count)) nth) m
      (stored_by (then_some f (w' / 2 ^ check_width % 2 ^ data_bits)) (Some (a % address_count)) k)
  unfolding protocol.speak byte_of
  takes_last {f} h e p =
      let none_left : left % counts ≡ 0 = omega arith in
      rw (none_left, ← e, ← p, around a) (tested f (λ q. rw q) (λ q. rw q))

-- P: the next address exists where it is not 0.
there_is : (address : ℕ) → ltb (before (address % address_count) + 1) address_count ≡ not (eqb (address % address_count) 0)
there_is address =
    tested (ltb (before (address % address_count) + 1) address_count)
    (λ q. let l : before (address % address_count) + 1 < address_count = ltb-true _ _ q in rw (q, ne_eqb (address % address_count) 0 (omega arith)))
    (λ q. let l : address_count ≤ before (address % address_count) + 1 = ltb-false _ _ q in rw (q, eq-eqb (address % address_count) 0 (omega arith)))

pub goes_on_is : (write : Bool) {own : Bool} (p : Passed) (right : ℕ) {good there allowed : Bool} → own ≡ good → not (eqb (p.next % address_count) 0) ≡ there
    → bit (num write) right ≡ allowed → (good && (there && allowed && ltb p.nth byte_limit)) ≡ goes_on write own p right
unfolding goes_on
goes_on_is write p right g t a = rw (← g, ← t, ← a, there_is p.next)

-- P, as the code goes by it and as protocol does.
on_near : (write good : Bool) (p : Passed) (right : ℕ) → goes_on write good p right ≡ true → before (p.next % address_count) + 1 ≡ p.next % address_count
unfolding goes_on
on_near write good p right h =
    let near : Bool = ltb (before (p.next % address_count) + 1) address_count in
    let e : near ≡ true = (both near _ (both _ _ (both good _ h).1).0).0 in
    let l : before (p.next % address_count) + 1 < address_count = ltb-true _ _ e in
    omega arith

-- Where it goes on, few bytes have passed.
pub on_few : (write good : Bool) (p : Passed) (right : ℕ) → goes_on write good p right ≡ true → p.nth < byte_limit
unfolding goes_on
on_few write good p right h = ltb-true _ _ (both _ _ (both good _ h).1).1

more_is : (k : Memory) (write good : Bool) (p : Passed) (seen : Seen) → SeenAt k (p.next % address_count) seen
    → (good && protocol.more k write (before (p.next % address_count)) p.nth) ≡ goes_on write good p seen.right
unfolding goes_on protocol.more
more_is k write good p seen s =
    tested (ltb (before (p.next % address_count) + 1) address_count)
    (λ e.
    let l : before (p.next % address_count) + 1 < address_count = ltb-true _ _ e in
    let here : before (p.next % address_count) + 1 ≡ p.next % address_count = omega arith in
    rw (here, s.right_there write))
    (λ e. rw e)

module _ (k : Memory) (write good : Bool) (p : Passed) (m far : Bool) (seen : Seen) {f : Bool} where
  pub asks_on : SeenAt k (p.next % address_count) seen → f ≡ goes_on write good p seen.right → f ≡ true
      → protocol.speak k (protocol.ask_p write good (before (p.next % address_count)) p.nth) m far
      ≡ protocol.turn (protocol.byte_s write (p.next % address_count) (p.nth + 1) 0) false k
  unfolding protocol.speak
  asks_on s e t = rw (more_is k write good p seen s, ← e, t, on_near write good p seen.right (sym e ∙ t))

  pub asks_end : SeenAt k (p.next % address_count) seen → f ≡ goes_on write good p seen.right → f ≡ false
      → protocol.speak k (protocol.ask_p write good (before (p.next % address_count)) p.nth) m far ≡ protocol.turn protocol.deaf true k
  unfolding protocol.speak
  asks_end s e t = rw (more_is k write good p seen s, ← e, t)
