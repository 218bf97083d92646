-- The memories of a chain: registers that hold bytes, the memory at a place, one register changed, the place that an address shows, and
-- what P looks at. Assumes nothing.
use mathlib.Core.Path.{◌≡◌, refl, ap}
use mathlib.Core.Bool.{Bool, true, false, ◌&&◌, false≢true}
use mathlib.Core.List.{List, [], ◌∷◌}
use mathlib.Core.Option.{Option, none, some, some-injective, none-ne-some}
use Prim.Native.Nat.{ℕ, zero, suc, ◌+◌, ◌-◌, ◌*◌, ◌≤◌, ◌<◌, ◌^◌}
use native.Mathlib.Omega.{arith}
use borrow.Author.Tests.{ltb-true, ltb-false, ne_eqb}
use lib.Dec.{ltb}
use lib.ListN.{length, get_or, set, get_elem?, length-set}
use lib.Seq.{set-get_or, get_or-set_other}
use Rattle.protocol.specs.Limits.{address_count, byte_limit, bank_size, bank_register}
use Rattle.protocol.specs.Bits.{num, bit}
use Rattle.protocol.specs.Division.{data_bits}
use Rattle.protocol.specs.Memory.{Memory, chosen, place_of, place, at, put_at, changed, allows, holds, stored}
use Rattle.protocol.specs.Slave.{more}
use Rattle.protocol.specs.Replay.{stored_at}
use Rattle.laws.proofs.Every.{Every, tested}
use Rattle.laws.proofs.Places.{set_keeps}

-- Every register of a memory is a byte, wherever it lies ..
abbrev pub AllBytes : Memory → Type 0
AllBytes k = (i : ℕ) → get_or k.registers i 0 < 2 ^ data_bits

-- .. and of every memory.
abbrev pub Bytes : List Memory → Type 0
Bytes ks = Every AllBytes ks

-- So a byte stands at any address, and where none is shown, 0.
pub byte_held : (k : Memory) (address : ℕ) → AllBytes k → holds k address < 2 ^ data_bits
unfolding holds
byte_held k address h = go (place k address)
  where
    go : (p : Option ℕ) → at k.registers p < 2 ^ data_bits
    go none = omega arith
    go (some i) = h i

-- A register stored into the memory at a place.
pub stored_set : (ks : List Memory) (id address value : ℕ) (k : Memory) → get_elem? ks id ≡ some k
    → stored_at ks id address value ≡ set ks id (stored k address value)
unfolding stored_at
stored_set [] id address value k e = refl
stored_set (l ∷ ks) zero address value k e = rw (some-injective l k e)
stored_set (l ∷ ks) (suc id) address value k e = ap (λ (v : List Memory). l ∷ v) (stored_set ks id address value k e)

-- A byte stored leaves bytes.
all_bytes_stored : (k : Memory) (address value : ℕ) → value < 2 ^ data_bits → AllBytes k → AllBytes (stored k address value)
unfolding stored
all_bytes_stored k address value h bs = go (place k address)
  where
    go : (p : Option ℕ) → AllBytes (changed k p value)
    go none j = bs j
    go (some i) j = set_keeps (λ n. n < 2 ^ data_bits) k.registers i j value 0 h (bs j)

pub bytes_stored : (ks : List Memory) (id address value : ℕ) → value < 2 ^ data_bits → Bytes ks → Bytes (stored_at ks id address value)
unfolding stored_at
bytes_stored [] id address value h bs = tt
bytes_stored (k ∷ ks) zero address value h bs = (all_bytes_stored k address value h bs.0, bs.1)
bytes_stored (k ∷ ks) (suc id) address value h bs = (bs.0, bytes_stored ks id address value h bs.1)

-- What stands there, stored again, changes nothing; and a store keeps the number of registers.
pub stored_held : (k : Memory) (address : ℕ) → stored k address (holds k address) ≡ k
unfolding stored holds
stored_held k address = go (place k address)
  where
    go : (p : Option ℕ) → changed k p (at k.registers p) ≡ k
    go none = refl
    go (some i) = rw (set-get_or k.registers i 0)

pub stored_size : (k : Memory) (address value : ℕ) → length (stored k address value).registers ≡ length k.registers
unfolding stored
stored_size k address value = go (place k address)
  where
    go : (p : Option ℕ) → length (put_at k.registers p value) ≡ length k.registers
    go none = refl
    go (some i) = length-set k.registers i value

-- The bank register lies where address 64 alone shows it, and so a store elsewhere chooses no bank ..
other_place : (banks chosen address i : ℕ) → (address ≡ bank_register → ⊥) → place_of banks chosen address ≡ some i
    → (bank_size * banks ≡ i → ⊥)
unfolding place_of
other_place banks chosen address i other e same =
    tested (ltb address bank_size)
    (λ q. tested (ltb chosen banks)
    (λ r. let here : bank_size * chosen + address ≡ i = some-injective _ _ (rw (q, r) at e) in
    omega (arith, ltb-true address bank_size q, ltb-true chosen banks r))
    (λ r. none-ne-some _ (rw (q, r) at e)))
    (λ q. let here : bank_size * banks + (address - bank_size) ≡ i = some-injective _ _ (rw (q, ne_eqb address bank_register other) at e) in
    other (omega (arith, ltb-false address bank_size q)))

pub chosen_stays : (k : Memory) (address value : ℕ) → (address ≡ bank_register → ⊥) → chosen (stored k address value) ≡ chosen k
unfolding stored chosen
chosen_stays k address value other = go (place k address) (λ i e. other_place k.banks (chosen k) address i other e)
  where
    go : (p : Option ℕ) → ((i : ℕ) → p ≡ some i → (bank_size * k.banks ≡ i → ⊥)) → chosen (changed k p value) ≡ chosen k
    go none h = refl
    go (some i) h = get_or-set_other k.registers i (bank_size * k.banks) value 0 (h i refl)

-- .. so that every address shows the same place as before; and a store of the bank register itself leaves those of the fixed addresses.
pub place_stays : (k : Memory) (address value b : ℕ) → (address ≡ bank_register → bank_size ≤ b)
    → place (stored k address value) b ≡ place k b
unfolding place_of stored
place_stays k address value b h =
    tested (ltb b bank_size)
    (λ q. ap (λ (c : ℕ). place_of k.banks c b) (chosen_stays k address value (λ e. omega (arith, ltb-true b bank_size q, h e))))
    (λ q. rw q)

-- In a sequence addresses rise: what was stored takes no right away at those that follow.
pub allows_ahead : (k : Memory) (write : Bool) (address value b : ℕ) → address < b → allows (stored k address value) write b ≡ allows k write b
unfolding allows stored
allows_ahead k write address value b h =
    ap (λ (p : Option ℕ). bit (num write) (at k.rights p)) (place_stays k address value b (λ e. omega arith))

-- Where a slave goes on after P, there is a next address, the byte was not the last, and the right allows it.
goes_on_so : (good next allowed fewer : Bool) → good && (next && allowed && fewer) ≡ true → (next && fewer ≡ true) × (allowed ≡ true)
goes_on_so false next allowed fewer h = absurd (false≢true h)
goes_on_so true false allowed fewer h = absurd (false≢true h)
goes_on_so true true false fewer h = absurd (false≢true h)
goes_on_so true true true fewer h = (h, refl)

pub goes_on_lem : (k : Memory) (write good : Bool) (address nth : ℕ) → good && more k write address nth ≡ true
    → (ltb (address + 1) address_count && ltb nth byte_limit ≡ true) × (allows k write (address + 1) ≡ true)
unfolding more
goes_on_lem k write good address nth h =
    goes_on_so good (ltb (address + 1) address_count) (allows k write (address + 1)) (ltb nth byte_limit) h
