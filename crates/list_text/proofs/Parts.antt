-- An entry's line by its parts. Assumes nothing.
use mathlib.Core.Path.{◌≡◌, refl, ap, ◌∙◌}
use mathlib.Core.Bool.{true, false, cond}
use mathlib.Core.List.{List, [], ◌∷◌, ◌++◌, map}
use Prim.Native.Nat.{ℕ, zero, suc, ◌+◌, ◌≤◌, ◌<◌}
use native.Mathlib.Omega.{arith}
use lib.ListN.{length, length-append, get_or, drop, set}
use lib.Seq.{sets}
use Rattle.protocol.specs.Entries.{table}
use Rattle.protocol.specs.Banks.{Banked}
use Rattle.protocol.specs.Layout.{Field, numbers, value_of, named}
use Rattle.protocol.specs.Text.{feed, field, cells, entry_line}
use Rattle.std.specs.Prelude.{Some, None}
use Rattle.list_text.specs.Lists.{cell, number_in}
use native.Mathlib.Numerals.{add-one}
use Rattle.print.specs.Laid.{Laid}
use Rattle.print.proofs.Laid.{part_laid, laid_length}

-- A field is printed by its number, if the entry names it.
cell_of : (e : Banked) (f : Field) → cell (number_in e f) ≡ field (named e f) (value_of e f)
unfolding field
cell_of e f = elim (named e f) as (λ b. cell (cond b (Some (value_of e f)) None) ≡ field b (value_of e f)) [ true ↦ refl | false ↦ refl ]

-- The fields of a line from the i-th on: that one, and those behind it.
cells_from : (e : Banked) (fs : List Field) (i : ℕ) → i < length fs
    → cells e (drop i fs) ≡ cell (get_or (map (number_in e) fs) i None) ++ cells e (drop (suc i) fs)
unfolding cells
cells_from e [] i h = absurd (omega arith)
cells_from e (f ∷ fs) zero h = rw cell_of
cells_from e (f ∷ fs) (suc i) h = cells_from e fs i (omega arith)

cells_more : (e : Banked) (fs : List Field) (i : ℕ) → i < length fs
    → cells e (drop i fs) ≡ cell (get_or (map (number_in e) fs) i None) ++ cells e (drop (i + 1) fs)
cells_more e fs i h = rw add-one (cells_from e fs i h)

-- How long a line is, and its fields from the i-th on.
pub line_length_lem : (e : Banked) → length (entry_line e) ≡ length (table e.entry.event.kind).name + length (cells e numbers)
unfolding entry_line
line_length_lem e = length-append (table e.entry.event.kind).name (cells e numbers)

pub cells_length : (e : Banked) (fs : List Field) (i : ℕ) → i < length fs
    → length (cells e (drop i fs)) ≡ length (cell (get_or (map (number_in e) fs) i None)) + length (cells e (drop (i + 1) fs))
cells_length e fs i h = rw (cells_more e fs i h, length-append)

-- What is left of bytes to lay: there is room for it, and laid on the buffer of now it is all of them laid on the first.
pub record Left (all : List ℕ) (at : ℕ) (lent rest : List ℕ) (p : ℕ) (now : List ℕ) : Type 0 where
  pub fits : p + length rest ≤ length now
  pub place : p + length rest ≡ at + length all
  pub laid : sets now p rest ≡ sets lent at all

pub left_all : {all lent : List ℕ} {at : ℕ} → at + length all ≤ length lent → Left all at lent all at lent
left_all h = record { fits = h; place = refl; laid = refl }

module _ {all lent now : List ℕ} {at p : ℕ} where
  -- What is left behind a part of it.
  pub left_behind : {part after : List ℕ} {q : ℕ} (rest : List ℕ) → Left all at lent (part ++ rest) p now → Laid part p now q after
      → Left all at lent rest q after
  left_behind {part} rest l put =
      let long = length-append part rest in
      let same = laid_length put in
      record { fits = omega (arith, put.behind); place = omega (arith, put.behind); laid = part_laid put rest ∙ l.laid }

  -- .. behind a field of a line are the fields behind it.
  pub field_behind : (e : Banked) (fs : List Field) (i : ℕ) → i < length fs → Left all at lent (cells e (drop i fs)) p now
      → {after : List ℕ} {q : ℕ} → Laid (cell (get_or (map (number_in e) fs) i None)) p now q after
      → Left all at lent (cells e (drop (i + 1) fs)) q after
  field_behind e fs i h l put = left_behind _ (rw (cells_more e fs i h) at l) put

  pub left_none : {rest : List ℕ} → rest ≡ [] → Left all at lent rest p now → Laid all at lent p now
  left_none {rest} q l =
      let none = ap length q in
      record { behind = omega (arith, l.place); laid = rw q at l.laid }

  -- The line feed.
  pub line_end : (e : Banked) → Left all at lent (cells e []) p now → Laid all at lent (p + 1) (set now p feed)
  unfolding cells
  line_end e l = record { behind = l.place; laid = l.laid }
