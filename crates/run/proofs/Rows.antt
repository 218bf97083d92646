-- A row, slave by slave: those that have gone over it, and those that have yet to. Assumes nothing.
use mathlib.Core.Path.{◌≡◌, refl, sym, ap, ◌∙◌}
use mathlib.Core.Bool.{Bool, true, false}
use mathlib.Core.List.{List, [], ◌∷◌, ◌++◌, map, append-nil, append_assoc}
use Prim.Native.Nat.{ℕ, zero, suc, ◌+◌, ◌-◌, ◌*◌, ◌≤◌, ◌<◌}
use native.Mathlib.Nat.{add-zero}
use native.Mathlib.Omega.{arith}
use lib.ListN.{length, length-map, length-append, length-drop, take, drop, replicate, get_or, drop_of_length-le}
use lib.Seq.{drop-drop, get_or-drop, take_all, length-take-le, take_at, drop_at}
use Rattle.protocol.specs.Limits.{command_count}
use Rattle.protocol.specs.Bits.{num, bit_of, row_of}
use Rattle.protocol.specs.Slave as protocol
use Rattle.protocol.specs.Chain.{switched_on, memories, answers_from, memories_after}
use Rattle.run.specs.Run.{size_of, memories_of, registers_of, counts_of}
use Rattle.run.specs.Parts.{sent_by, new_by, Passed, Rowed}
use Rattle.run.proofs.Tables.{left_next}
use Rattle.run.proofs.Turned.{all_sent, all_after, answers_turned, after_turned}

-- A row's bytes are its bits.
pub row_num : (bs : List Bool) → row_of (map num bs) ≡ bs
unfolding row_of
row_num [] = refl
row_num (true ∷ bs) = ap (λ (l : List Bool). true ∷ l) (row_num bs)
row_num (false ∷ bs) = ap (λ (l : List Bool). false ∷ l) (row_num bs)

row_zeros : (n : ℕ) → row_of (replicate n 0) ≡ replicate n false
unfolding row_of
row_zeros zero = refl
row_zeros (suc n) = ap (λ (l : List Bool). false ∷ l) (row_zeros n)

num_zeros : (n : ℕ) → map num (replicate n false) ≡ replicate n 0
num_zeros zero = refl
num_zeros (suc n) = ap (λ (l : List ℕ). 0 ∷ l) (num_zeros n)

-- The slaves that have yet to go over the row, at power-on: those of the table from place i on, with the bytes from `at` on.
unfoldable pub waiting : (table : List ℕ) (i at : ℕ) (registers rights waits : List ℕ) → List protocol.Slave
waiting table i at registers rights waits = switched_on (memories_of (drop i table) (drop at registers) (drop at rights) (drop i waits))

-- The bytes of one slave end where those of the others begin.
skipped : (at end : ℕ) (bytes : List ℕ) → at ≤ end → drop (end - at) (drop at bytes) ≡ drop end bytes
skipped at end bytes h =
    let e : at + (end - at) ≡ end = omega arith in drop-drop (end - at) at bytes ∙ ap (λ (n : ℕ). drop n bytes) e

waiting_next : (table : List ℕ) (i at end b : ℕ) (registers rights waits : List ℕ) → i < length table → b ≡ get_or table i 0
    → end ≡ at + size_of b
    → waiting table i at registers rights waits
    ≡ new_by b (take (end - at) (drop at registers)) (take (end - at) (drop at rights)) (get_or waits i 0)
    ∷ waiting table (i + 1) end registers rights waits
unfolding waiting switched_on memories_of
waiting_next table i at end b registers rights waits h e stop =
    let size : size_of b ≡ end - at = omega arith in
    let before : at ≤ end = omega arith in
    rw (
      left_next table i h,
      ← e,
      size,
      skipped at end registers before,
      skipped at end rights before,
      get_or-drop i waits 0 0,
      drop-drop 1 i waits,
      add-zero,
    )

waiting_none : (table : List ℕ) (i at : ℕ) (registers rights waits : List ℕ) → length table ≤ i
    → waiting table i at registers rights waits ≡ []
unfolding waiting switched_on memories_of
waiting_none table i at registers rights waits h = rw (drop_of_length-le table h)

-- The registers of those that have gone over the row, with those of the others behind them ..
unfoldable pub gathered : (table : List ℕ) (i at : ℕ) (registers rights waits cdm cds : List ℕ) → List ℕ
gathered table i at registers rights waits cdm cds =
    take at registers ++ registers_of (memories (all_after (waiting table i at registers rights waits) (row_of cdm) (row_of cds)))

-- .. and their counts: those of the slave at place i lie from the i-th four on.
unfoldable pub tallied : (table : List ℕ) (i at : ℕ) (registers rights waits counts cdm cds : List ℕ) → List ℕ
tallied table i at registers rights waits counts cdm cds =
    take (command_count * i) counts ++ counts_of (memories (all_after (waiting table i at registers rights waits) (row_of cdm) (row_of cds)))

-- At first all are waiting, and the bits are 0.
module _ (table registers rights waits cdm : List ℕ) where
  zeros : row_of (replicate (length cdm) 0) ≡ replicate (length (row_of cdm)) false
  unfolding row_of
  zeros = row_zeros (length cdm) ∙ ap (λ (k : ℕ). replicate k false) (sym (length-map cdm bit_of))

  pub sent_first : all_sent (waiting table 0 0 registers rights waits) (row_of cdm) (row_of (replicate (length cdm) 0))
      ≡ answers_from (memories_of table registers rights waits) (row_of cdm)
  unfolding waiting answers_from
  sent_first = rw zeros (answers_turned (switched_on (memories_of table registers rights waits)) (row_of cdm))

  pub gathered_first : gathered table 0 0 registers rights waits cdm (replicate (length cdm) 0)
      ≡ registers_of (memories_after (memories_of table registers rights waits) (row_of cdm))
  unfolding gathered waiting memories_after
  gathered_first = rw (zeros, after_turned (switched_on (memories_of table registers rights waits)) (row_of cdm))

  pub tallied_first : (counts : List ℕ) → tallied table 0 0 registers rights waits counts cdm (replicate (length cdm) 0)
      ≡ counts_of (memories_after (memories_of table registers rights waits) (row_of cdm))
  unfolding tallied waiting memories_after
  tallied_first counts = rw (zeros, after_turned (switched_on (memories_of table registers rights waits)) (row_of cdm))

pub bits_first : (n : ℕ) → map num (row_of (replicate n 0)) ≡ replicate n 0
bits_first n = rw (row_zeros n) (num_zeros n)

-- A slave's own part of a buffer, from `at` to `end` ..
own_long : (at end : ℕ) (whole : List ℕ) → end ≤ length whole → length (take (end - at) (drop at whole)) ≡ end - at
own_long at end whole h = length-take-le (end - at) (drop at whole) (rw length-drop (omega arith))

-- .. and the buffer in which another one has taken its place.
abbrev replaced : (at end : ℕ) (whole part : List ℕ) → List ℕ
replaced at end whole part = take at whole ++ (part ++ drop (end - at) (drop at whole))

module _ (at end : ℕ) (whole part : List ℕ) (order : at ≤ end) (within : end ≤ length whole)
    (same : length part ≡ length (take (end - at) (drop at whole))) where
  abbrev front : List ℕ
  front = take at whole ++ part

  front_long : length front ≡ end
  front_long =
      length-append (take at whole) part
      ∙ omega (arith, own_long at end whole within, length-take-le at whole (omega arith))

  split : replaced at end whole part ≡ front ++ drop end whole
  split = rw (skipped at end whole order) (sym (append_assoc (take at whole) part (drop end whole)))

  replaced_behind : drop end (replaced at end whole part) ≡ drop end whole
  replaced_behind = ap (drop end) split ∙ drop_at front (drop end whole) end front_long

  replaced_before : take end (replaced at end whole part) ≡ front
  replaced_before = ap (take end) split ∙ take_at front (drop end whole) end front_long

  replaced_long : length (replaced at end whole part) ≡ length whole
  replaced_long = ap length split ∙ length-append front (drop end whole) ∙ rw length-drop (omega (arith, front_long))

-- One slave has gone over the row: b are its banks, `part` its registers afterwards, from `at` to `end`, and `tally` its counts.
pub record Gone (table : List ℕ) (i at end b : ℕ) (registers rights waits counts cdm cds part tally cds' : List ℕ) : Type 0 where
  pub banks : b ≡ get_or table i 0
  pub stop : end ≡ at + size_of b
  pub small : i < length table
  pub long : end ≤ length registers
  pub same : length part ≡ length (take (end - at) (drop at registers))
  pub full : length counts ≡ command_count * length table
  pub four : length tally ≡ length (take (command_count * i + command_count - command_count * i) (drop (command_count * i) counts))
  pub passed : Passed b (take (end - at) (drop at rights)) (get_or waits i 0) (take (end - at) (drop at registers)) cdm cds part tally cds'

module _ {table : List ℕ} {i at end b : ℕ} {registers rights waits counts cdm cds part tally cds' : List ℕ}
    (gone : Gone table i at end b registers rights waits counts cdm cds part tally cds') where
  abbrev stored : List ℕ
  stored = replaced at end registers part

  abbrev counted : List ℕ
  counted = replaced (command_count * i) (command_count * i + command_count) counts tally

  forward : at ≤ end
  forward = omega (arith, gone.stop)

  fitting : command_count * i + command_count ≤ length counts
  fitting = omega (arith, gone.small, gone.full)

  others : waiting table (i + 1) end stored rights waits ≡ waiting table (i + 1) end registers rights waits
  unfolding waiting
  others = rw (replaced_behind at end registers part forward gone.long gone.same)

  abbrev this : protocol.Slave
  this = new_by b (take (end - at) (drop at registers)) (take (end - at) (drop at rights)) (get_or waits i 0)

  next : waiting table i at registers rights waits ≡ this ∷ waiting table (i + 1) end registers rights waits
  next = waiting_next table i at end b registers rights waits gone.small gone.banks gone.stop

  bits : row_of cds' ≡ sent_by this (row_of cdm) (row_of cds)
  bits = ap row_of gone.passed.sent ∙ row_num (sent_by this (row_of cdm) (row_of cds))

  pub stored_long : length stored ≡ length registers
  stored_long = replaced_long at end registers part forward gone.long gone.same

  pub counted_long : length counted ≡ length counts
  counted_long = replaced_long _ _ counts tally (omega arith) fitting gone.four

  pub bits_next : map num (row_of cds') ≡ cds'
  bits_next = ap (map num) bits ∙ sym gone.passed.sent

  pub sent_next : all_sent (waiting table i at registers rights waits) (row_of cdm) (row_of cds)
      ≡ all_sent (waiting table (i + 1) end stored rights waits) (row_of cdm) (row_of cds')
  unfolding all_sent
  sent_next = rw (next, others, bits)

  pub gathered_next : gathered table i at registers rights waits cdm cds ≡ gathered table (i + 1) end stored rights waits cdm cds'
  unfolding gathered all_after registers_of
  gathered_next =
      rw (
        next,
        others,
        bits,
        replaced_before at end registers part forward gone.long gone.same,
        append_assoc,
        ← gone.passed.memory_after,
      )

  tallied_before : take (command_count * (i + 1)) counted ≡ take (command_count * i) counts ++ tally
  tallied_before =
      let on : command_count * (i + 1) ≡ command_count * i + command_count = omega arith in
      rw on (replaced_before _ _ counts tally (omega arith) fitting gone.four)

  pub tallied_next : tallied table i at registers rights waits counts cdm cds
      ≡ tallied table (i + 1) end stored rights waits counted cdm cds'
  unfolding tallied all_after counts_of
  tallied_next = rw (next, others, bits, tallied_before, append_assoc, ← gone.passed.memory_after)

-- At last none are waiting.
pub rowed : (table rights waits registers cdm registers' counts' cds' : List ℕ) (i at : ℕ) → length table ≤ i → length registers' ≤ at
    → length counts' ≡ command_count * length table
    → map num (row_of cds') ≡ cds'
    → all_sent (waiting table i at registers' rights waits) (row_of cdm) (row_of cds')
    ≡ answers_from (memories_of table registers rights waits) (row_of cdm)
    → gathered table i at registers' rights waits cdm cds'
    ≡ registers_of (memories_after (memories_of table registers rights waits) (row_of cdm))
    → tallied table i at registers' rights waits counts' cdm cds'
    ≡ counts_of (memories_after (memories_of table registers rights waits) (row_of cdm))
    → Rowed table rights waits registers cdm registers' counts' cds'
unfolding all_sent all_after gathered tallied registers_of counts_of
rowed table rights waits registers cdm registers' counts' cds' i at h l f b a g t =
    let none : waiting table i at registers' rights waits ≡ [] = waiting_none table i at registers' rights waits h in
    record {
      row = sym b ∙ ap (map num) (rw none at a);
      registers_after = sym (take_all at registers' l) ∙ sym (append-nil _) ∙ rw none at g;
      counts_after = sym (take_all (command_count * i) counts' (omega arith)) ∙ sym (append-nil _) ∙ rw none at t;
    }
