-- The rows of Building, cut into the parts that the code lays: 32 columns and then each byte's, or thirty and then S to EX for a command;
-- and how long they are. Assumes nothing.
use mathlib.Core.Path.{◌≡◌, refl, ap, ◌∙◌}
use mathlib.Core.Bool.{Bool, true, false, not}
use mathlib.Core.List.{List, [], ◌∷◌, ◌++◌, map, append_assoc}
use Prim.Native.Nat.{ℕ, zero, suc, ◌+◌, ◌-◌, ◌*◌, ◌^◌, ◌≤◌, ◌<◌}
use native.Mathlib.Nat.{mul_comm, mul-suc, add-mul}
use native.Mathlib.Numerals.{add-one}
use native.Mathlib.Omega.{arith}
use borrow.Author.Tests.{eq-eqb, ne_eqb}
use lib.ListN.{length, length-append, length-map, length-replicate, get_or, get_or-replicate}
use lib.ListN.{drop, drop_of_length-le, replicate}
use lib.Seq.{append_snoc, drop-cons, sets, length-sets}
use Rattle.std.specs.Prelude.{All}
use Rattle.std.proofs.lemmas.List.{get_or-map}
use Rattle.protocol.specs.Bits.{num, bit, bits}
use Rattle.protocol.specs.Division.{header_bits, data_bits, check, word}
use Rattle.protocol.specs.Header.{access_word, command_word}
use Rattle.protocol.specs.Commands.{execute_column}
use Rattle.protocol.specs.Memory.{delay_by}
use Rattle.protocol.specs.Building.{read, write, command, byte_columns, read_bits, write_bits, command_columns, frame_of, row_for}
use Rattle.protocol.specs.Understood.{delayed}
use Rattle.protocol.proofs.Words.{num_lt, bits_append, length_bits, word_lt}
use Rattle.protocol.proofs.Commands.{execute_late}
use Rattle.build.specs.Build.{made}
use Rattle.build.specs.Parts.{lead, way, access_lead, access_row, Laid}
use Rattle.build.proofs.Columns.{part_laid}

-- Fourteen zeros, S and the header are the thirty bits of one number ..
pub lead_bits : (v : ℕ) → v < 2 ^ header_bits → bits 30 (2 ^ 15 + word header_bits v) ≡ lead v
unfolding lead bits bit
lead_bits v h = bits_append 15 15 1 (word_lt header_bits v h)

-- .. with R and W, of thirty-two ..
ways : (writing : Bool) → (way writing < 4) × (bits 2 (way writing) ≡ not writing ∷ writing ∷ [])
unfolding bits bit
ways false = (omega arith, refl)
ways true = (omega arith, refl)

pub access_bits : (writing : Bool) (id address : ℕ) → access_word id address < 2 ^ header_bits
    → bits 32 (4 * (2 ^ 15 + word header_bits (access_word id address)) + way writing) ≡ access_lead writing id address
unfolding access_lead
access_bits writing id address h =
    let v : ℕ = access_word id address in
    ap (λ (x : ℕ). bits 32 (x + way writing)) (mul_comm 4 (2 ^ 15 + word header_bits v))
    ∙ bits_append 30 2 (2 ^ 15 + word header_bits v) (ways writing).0
    ∙ rw (lead_bits v h, (ways writing).1)

-- .. and a byte's S, twelve bits and P of fourteen: of a read ..
pub read_word : (count nth : ℕ) → nth < count → bits 14 8192 ≡ true ∷ (get_or (replicate count read_bits) nth [] ++ false ∷ [])
unfolding bits bit
read_word count nth h = rw (get_or-replicate count nth read_bits [] h)

-- .. and of a write.
pub write_word : (v : ℕ) → v < 2 ^ data_bits → bits 14 (8192 + 32 * v + 2 * check data_bits v) ≡ true ∷ (write_bits v ++ false ∷ [])
unfolding bits bit word
write_word v h =
    let w : ℕ = word data_bits v in
    let e : 8192 + 32 * v + 2 * check data_bits v ≡ 1 * 2 ^ 13 + (w * 2 ^ 1 + 0) = omega arith in
    ap (bits 14) e ∙ bits_append 1 13 1 {c = w * 2 ^ 1 + 0} (omega (arith, word_lt data_bits v h))
    ∙ ap (λ (l : List Bool). true ∷ l) (bits_append 12 1 w {c = 0} (omega arith))

-- The bytes of an access laid one after the other, of a read or a write: before byte i the columns that are left, laid on the row of now,
-- are all of them laid on the first row.
module _ (writing : Bool) (wait : ℕ) (bytes : List (List Bool)) (at : ℕ) (first : List ℕ) where
  abbrev left : ℕ → List Bool
  left i = byte_columns writing wait (i + 1) (drop i bytes)

  pub record Laying (i p : ℕ) (out : List ℕ) : Type 0 where
    pub place : p + length (left i) ≡ at + length (left 0)
    pub long : length out ≡ length first
    pub lays : sets out p (map num (left i)) ≡ sets first at (map num (left 0))

  module _ {i p : ℕ} {out : List ℕ} (so_far : Laying i p out) where
    module _ (delay w : ℕ) (some : i < length bytes) (waits : delay ≡ delay_by wait writing (i + 1))
        (byte : bits 14 w ≡ true ∷ (get_or bytes i [] ++ false ∷ [])) where
      abbrev part : List Bool
      part = replicate delay true ++ bits 14 w

      part_long : length part ≡ delay + 14
      part_long = rw (length-append, length-replicate, length_bits)

      parted : part ++ left (i + 1) ≡ left i
      unfolding byte_columns
      parted = rw (waits, drop-cons bytes i [] some, byte, append_assoc, append_snoc, add-one)

      pub byte_room : at + length (left 0) ≤ length first → p + (delay + 14) ≤ length out
      byte_room room = omega (arith, part_long, rw length-append at (ap length parted), so_far.place, so_far.long)

      pub byte_laid : {p' : ℕ} {out' : List ℕ}
          → (p' ≡ p + (delay + 14)) × (out' ≡ sets out p (map num (replicate delay true ++ bits 14 w)))
          → Laying (i + 1) p' out'
      byte_laid put =
          record {
            place = rw put.0 (omega (arith, part_long, rw length-append at (ap length parted), so_far.place));
            long = rw (put.1, length-sets) so_far.long;
            lays = rw (put.0, put.1) (part_laid out p _ part _ _ part_long parted ∙ so_far.lays);
          }

    pub all_laid : length bytes ≤ i → Laid (left 0) at first p out
    unfolding byte_columns
    all_laid h =
        let none : drop i bytes ≡ [] = drop_of_length-le bytes h in
        (omega (arith, rw none at so_far.place), rw none at so_far.lays)

-- Every byte but the first waits alike.
pub later : (writing : Bool) (wait i : ℕ) → delay_by wait writing (i + 1 + 1) ≡ wait
unfolding delay_by
later false wait i = refl
later true wait i = rw (ne_eqb (i + 1 + 1) 1 (λ e. omega arith))

-- The columns of any bytes of twelve bits: fourteen each, and S again where one waits.
abbrev Twelves : List (List Bool) → Type 0
Twelves bytes = All (λ (twelve : List Bool). length twelve ≡ 12) bytes

later_twelves : (twelve : List Bool) (bytes : List (List Bool)) → Twelves (twelve ∷ bytes) → Twelves bytes
later_twelves twelve bytes h k d some = h (suc k) d (omega arith)

length_from : (writing : Bool) (wait i : ℕ) (twelve : List Bool) (bytes : List (List Bool)) → Twelves (twelve ∷ bytes)
    → length (byte_columns writing wait (i + 1) (twelve ∷ bytes)) ≡ delay_by wait writing (i + 1) + 14 + (14 + wait) * length bytes
unfolding byte_columns
length_from writing wait i twelve [] h =
    let here : length twelve ≡ 12 = h 0 [] (omega arith) in
    rw (length-append, length-replicate, length-append) (omega arith)
length_from writing wait i twelve (next ∷ bytes) h =
    let here : length twelve ≡ 12 = h 0 [] (omega arith) in
    rw (length-append, length-replicate, length-append, length_from writing wait (i + 1) next bytes (later_twelves twelve (next ∷ bytes) h), later)
    (omega arith)

length_bytes : (writing : Bool) (wait : ℕ) (bytes : List (List Bool)) → Twelves bytes
    → length (byte_columns writing wait 1 bytes) ≡ 14 * length bytes + wait * delayed writing (length bytes)
unfolding byte_columns delay_by
length_bytes false wait [] h = omega arith
length_bytes true wait [] h = omega arith
length_bytes false wait (twelve ∷ bytes) h =
    rw (length_from false wait 0 twelve bytes h, add-mul, mul-suc wait (length bytes)) (omega arith)
length_bytes true wait (twelve ∷ bytes) h = rw (length_from true wait 0 twelve bytes h, add-mul) (omega arith)

reads_twelve : (count : ℕ) → Twelves (replicate count read_bits)
reads_twelve count k d some = rw (get_or-replicate count k read_bits d (rw length-replicate at some))

pub writes_twelve : (vs : List ℕ) → Twelves (map write_bits vs)
writes_twelve vs k d some = rw (get_or-map write_bits vs k 0 d (rw length-map at some)) (length_bits 12 (word data_bits (get_or vs k 0)))

-- A row of an access is its first 32 columns and the bytes, that of a command its lead and the columns from its S to EX.
pub made_read : (id address n wait : ℕ) → made (read id address n wait) ≡ access_row false id address wait (replicate n read_bits)
unfolding access_lead lead made row_for frame_of bits byte_columns
made_read id address n wait = refl

pub made_write : (id address : ℕ) (vs : List ℕ) (wait : ℕ) → made (write id address vs wait) ≡ access_row true id address wait (map write_bits vs)
unfolding access_lead lead made row_for frame_of bits byte_columns
made_write id address vs wait = refl

pub made_command : (ids cmd : ℕ) (execute : Bool)
    → made (command ids cmd execute) ≡ map num (lead (command_word ids cmd) ++ command_columns ids execute)
unfolding lead made row_for frame_of bits
made_command ids cmd execute = refl

-- The columns from a command's S to EX, as bits of one number ..
tail : (execute : Bool)
    → (bits 2 (2 + num execute) ≡ true ∷ execute ∷ []) × (bits 9 (256 + num execute) ≡ true ∷ replicate 7 false ++ execute ∷ [])
unfolding bits bit
tail true = (refl, refl)
tail false = (refl, refl)

-- .. behind those of its header.
module _ (ids start : ℕ) (execute : Bool) where
  pub broadcast_bits : ids ≡ 0 → bits (30 + (execute_column ids + 1)) (4 * start + 2 + num execute) ≡ bits 30 start ++ command_columns ids execute
  unfolding execute_column
  broadcast_bits e =
      let parts : 4 * start + 2 + num execute ≡ start * 2 ^ 2 + (2 + num execute) = omega arith in
      rw (eq-eqb ids 0 e, parts)
      (bits_append 30 2 start (omega (arith, num_lt execute)) ∙ ap (λ (l : List Bool). bits 30 start ++ l) (tail execute).0)

  pub addressed_bits : (ids ≡ 0 → ⊥)
      → bits (30 + (execute_column ids + 1)) (512 * start + 256 + num execute) ≡ bits 30 start ++ command_columns ids execute
  unfolding execute_column
  addressed_bits h =
      let parts : 512 * start + 256 + num execute ≡ start * 2 ^ 9 + (256 + num execute) = omega arith in
      rw (ne_eqb ids 0 h, parts)
      (bits_append 30 9 start (omega (arith, num_lt execute)) ∙ ap (λ (l : List Bool). bits 30 start ++ l) (tail execute).1)

module _ (writing : Bool) (id address : ℕ) where
  pub length_lead : length (map num (access_lead writing id address)) ≡ 32
  unfolding access_lead lead bits
  length_lead = refl

  pub length_access : (wait : ℕ) (twelves : List (List Bool))
      → length (access_row writing id address wait twelves) ≡ 32 + length (byte_columns writing wait 1 twelves)
  length_access wait twelves = rw (length-append, length_lead, length-map)

  pub length_row : (wait : ℕ) (twelves : List (List Bool)) → Twelves twelves
      → length (access_row writing id address wait twelves) ≡ 32 + 14 * length twelves + wait * delayed writing (length twelves)
  length_row wait twelves h = length_access wait twelves ∙ rw (length_bytes writing wait twelves h) (omega arith)

-- Request 03: "in a write the first byte does not, later ones do."
pub all_but_first : (n : ℕ) → delayed true n ≡ n - 1
all_but_first zero = refl
all_but_first (suc n) = omega arith

-- Read of n bytes: 32 + (14 + wait) n columns; write: 32 + 14 n + wait (n - 1), and of no byte 32; a command 30 and S to EX.
pub length_read : (id address count wait : ℕ) → length (made (read id address count wait)) ≡ 32 + (14 + wait) * count
length_read id address count wait =
    ap length (made_read id address count wait)
    ∙ rw (length_row false id address wait (replicate count read_bits) (reads_twelve count), length-replicate, add-mul) (omega arith)

pub length_write : (id address : ℕ) (vs : List ℕ) (wait : ℕ)
    → length (made (write id address vs wait)) ≡ 32 + 14 * length vs + wait * (length vs - 1)
length_write id address vs wait =
    ap length (made_write id address vs wait)
    ∙ rw (length_row true id address wait (map write_bits vs) (writes_twelve vs), length-map vs write_bits, all_but_first)

length_header : (v : ℕ) → length (lead v) ≡ 30
unfolding lead bits
length_header v = refl

pub length_command : (ids cmd : ℕ) (execute : Bool) → length (made (command ids cmd execute)) ≡ 30 + (execute_column ids + 1)
length_command ids cmd execute =
    rw (made_command ids cmd execute, length-map, length-append, length_header, length-append, length-replicate)
    (omega (arith, execute_late ids))
