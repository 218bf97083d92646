-- A text of rows taken byte by byte and line by line, from a place on. Assumes nothing.
use mathlib.Core.Path.{◌≡◌, refl, sym, ap, ◌∙◌}
use mathlib.Core.Bool.{true, false, ◌&&◌, and-true, and-false}
use mathlib.Core.List.{List, [], ◌∷◌, ◌++◌, map}
use mathlib.Core.Option.{some}
use Prim.Native.Nat.{ℕ, min, zero, suc, ◌+◌, ◌-◌, ◌*◌, ◌/◌, ◌%◌, ◌≤◌, ◌<◌}
use native.Mathlib.Numerals.{add-one}
use native.Mathlib.Omega.{arith}
use borrow.Author.Tests.{lt-ltb}
use lib.Dec.{eqb}
use lib.ListN.{length, take, drop, get_or, length-drop, drop_of_length-le}
use lib.Seq.{take_all, drop-cons, drop-drop}
use Rattle.std.specs.Cmp.{nat_eq_equiv}
use Rattle.std.specs.List.{starts_with}
use Rattle.std.specs.Simd.{first_chunks}
use Rattle.protocol.specs.Text.{Form, rows_header, exactly, bit, a_tab, a_feed, has, lacking, column_form, begins}
use Rattle.protocol.specs.Fault.{line_at, byte_at, form_at, stop, fault_by}
use Rattle.protocol.proofs.Text.{four}
use Rattle.protocol.proofs.Stop.{stop_low, stop_again, stop_pieces, column_forms, through}

-- A line of given bytes: the text begins with them.
pub starts_begins : (line text : List ℕ) → starts_with eqb text line ≡ begins (map exactly line) text
unfolding begins
starts_begins [] text = refl
starts_begins (x ∷ line) [] = refl
starts_begins (x ∷ line) (b ∷ text) = rw (nat_eq_equiv.symm x b, starts_begins line text)

-- No text that is shorter begins with them.
pub short_begins : (line text : List ℕ) → length text < length line → begins (map exactly line) text ≡ false
unfolding begins
short_begins [] text h = absurd (omega arith)
short_begins (x ∷ line) [] h = refl
short_begins (x ∷ line) (b ∷ text) h = rw (short_begins line text (omega arith), and-false)

-- A text begins with a form where its first bytes do.
begins_take : (form : List Form) (text : List ℕ) → begins form (take (length form) text) ≡ begins form text
unfolding begins
begins_take [] text = refl
begins_take (f ∷ form) [] = refl
begins_take (f ∷ form) (b ∷ text) = rw (begins_take form text)

-- A line of four bytes, byte by byte.
pub column_bytes : (line : List ℕ) → length line ≡ 4
    → begins column_form line
    ≡ (has bit (get_or line 0 0) && (eqb (get_or line 1 0) 9 && (has bit (get_or line 2 0) && eqb (get_or line 3 0) 10)))
unfolding begins
column_bytes line e = ap (begins column_form) (four line 0 (omega arith)) ∙ rw and-true

-- The stop of a piece from its byte i on, with so many bytes of the text before it.
module _ (piece : List ℕ) (i before : ℕ) where
  -- A byte of its form leaves it to the bytes behind it, any other decides, and so does the end.
  pub byte_formed : i < length piece → has (form_at (i + before)) (get_or piece i 0) ≡ true
      → stop (i + 1 + before) (drop (i + 1) piece) ≡ stop (i + before) (drop i piece)
  unfolding stop
  byte_formed h q =
      let on : i + before + 1 ≡ i + 1 + before = omega arith in
      rw (drop-cons piece i 0 h, q, on, add-one)

  pub byte_stops : i < length piece → has (form_at (i + before)) (get_or piece i 0) ≡ false → i + before ≡ stop (i + before) (drop i piece)
  unfolding stop
  byte_stops h q = rw (drop-cons piece i 0 h, q)

  pub end_stops : length piece ≤ i → i + before ≡ stop (i + before) (drop i piece)
  unfolding stop
  end_stops h = rw (drop_of_length-le piece h)

-- The line i of a piece that is taken by lines of four bytes.
line_at_place : (i k : ℕ) (piece : List ℕ) → i < k → get_or (first_chunks 4 k piece) i [] ≡ take 4 (drop (4 * i) piece)
line_at_place i zero piece h = absurd (omega arith)
line_at_place zero (suc k) piece h = refl
line_at_place (suc i) (suc k) piece h =
    let on : 4 + 4 * i ≡ 4 * suc i = omega arith in
    line_at_place i k (drop 4 piece) (omega arith) ∙ ap (take 4) (drop-drop (4 * i) 4 piece ∙ rw on)

-- The stop of lines, from line i on: a line of its form leaves it to the lines behind it.
pub line_formed : (bytes : List ℕ) (lines : List (List ℕ)) (i : ℕ) → lines ≡ first_chunks 4 (length bytes / 4) bytes → i < length bytes / 4
    → true ≡ begins column_form (get_or lines i []) → stop (4 * (i + 1) + 8) (drop (4 * (i + 1)) bytes) ≡ stop (4 * i + 8) (drop (4 * i) bytes)
line_formed bytes lines i e h q =
    let on : 4 * i + 8 + 4 ≡ 4 * (i + 1) + 8 = omega arith in
    let far : 4 * (i + 1) ≡ 4 * i + 4 = omega arith in
    let line : get_or lines i [] ≡ take 4 (drop (4 * i) bytes) = rw e (line_at_place i (length bytes / 4) bytes h) in
    let there : begins column_form (drop (4 * i) bytes) ≡ true
    = sym (q ∙ ap (begins column_form) line ∙ begins_take column_form (drop (4 * i) bytes)) in
    sym (through column_form (4 * i + 8) (column_forms (4 * i + 8) (omega arith) (omega arith)) (drop (4 * i) bytes) there ∙ rw (on, far, drop-drop))

-- A stop is in its piece, or at its end.
pub stop_within : (piece : List ℕ) (place n : ℕ) → n + place ≡ stop place piece → n ≤ length piece
stop_within piece place n e = omega (arith, (stop_low place piece).1)

-- What is left of a text at a place is a piece; past the end there is none.
pub left : (text : List ℕ) (at : ℕ) → take (length text - at) (drop at text) ≡ drop at text
left text at = take_all (length text - at) (drop at text) (rw length-drop (omega arith))

pub past_end : (text : List ℕ) (at : ℕ) → length text < at → at ≡ stop at (drop at text)
unfolding stop
past_end text at h = rw (drop_of_length-le text {i = at} (omega arith))

-- A piece below the header: the lines before it change nothing but the place.
pub stop_far : (place n : ℕ) (piece : List ℕ) → 8 ≤ place → n + (8 + place % 4) ≡ stop (8 + place % 4) piece → n + place ≡ stop place piece
stop_far place n piece h e =
    let lines : 8 + place % 4 + 4 * (place / 4 - 2) ≡ place = omega arith in
    let far : stop (8 + place % 4 + 4 * (place / 4 - 2)) piece ≡ stop (8 + place % 4) piece + 4 * (place / 4 - 2)
    = stop_again (8 + place % 4) (place / 4 - 2) piece (omega arith) in
    let there : stop place piece ≡ stop (8 + place % 4) piece + 4 * (place / 4 - 2) = rw lines at far in
    rw there (omega arith)

-- What is left of lines behind whole ones; it is in them, or at their end.
module _ (lines : List ℕ) (past n : ℕ) (e : n + 8 ≡ stop 8 (take (length lines - past) (drop past lines))) where
  pub left_lines : past % 4 ≡ 0 → past + n + 8 ≡ stop (past + 8) (drop past lines)
  left_lines whole =
      let start : 8 + (past + 8) % 4 ≡ 8 = omega arith in
      omega (arith, stop_far (past + 8) n (drop past lines) (omega arith) (rw start (e ∙ ap (stop 8) (left lines past))))

  pub lines_within : past ≤ length lines → past + n ≤ length lines
  lines_within h = omega (arith, stop_within (drop past lines) 8 n (e ∙ ap (stop 8) (left lines past)), length-drop past lines)

-- Lines behind bytes that all have their form, to the start of a line.
pub behind_front : (front lines : List ℕ) (before begun n start : ℕ) → begun + before ≡ stop before front → length front ≤ begun
    → n + 8 ≡ stop 8 lines → start % 4 ≡ 0 → 8 ≤ start → before ≤ start → length front ≡ min (length front + length lines) (start - before)
    → begun + n + before ≡ stop before (front ++ lines)
unfolding stop
behind_front front [] before begun n start e all f even below after short =
    let full : stop before front ≡ before + length front = omega (arith, stop_low before front) in
    sym (stop_pieces [] before front full ∙ omega (arith, f))
behind_front front (b ∷ lines) before begun n start e all f even below after short =
    let full : stop before front ≡ before + length front = omega (arith, stop_low before front) in
    let there : before + length front ≡ start = omega arith in
    let place : 8 + start % 4 ≡ 8 = omega arith in
    let far : n + start ≡ stop start (b ∷ lines) = stop_far start n (b ∷ lines) below (rw place f) in
    sym (stop_pieces (b ∷ lines) before front full ∙ rw there (omega (arith, far)))

-- What a byte has to be, in the words of the code: a byte of the names, or the form of its place in a column's line.
named : (line : List ℕ) (i : ℕ) → i < length line → get_or (map exactly line) i bit ≡ exactly (get_or line i 0)
named [] i h = absurd (omega arith)
named (x ∷ line) zero h = refl
named (x ∷ line) (suc i) h = named line i (omega arith)

pub name_form : (place : ℕ) → place < 8 → form_at place ≡ exactly (get_or rows_header place 0)
name_form place h = rw (lt-ltb place 8 h) (named rows_header place h)

pub digit_form : (i : ℕ) → (i ≡ 1 → ⊥) → (i ≡ 3 → ⊥) → get_or column_form i bit ≡ bit
digit_form zero h k = refl
digit_form (suc zero) h k = absurd (h refl)
digit_form (suc (suc zero)) h k = refl
digit_form (suc (suc (suc zero))) h k = absurd (k refl)
digit_form (suc (suc (suc (suc i)))) h k = refl

-- Whatever byte has not its form, something is told of its place.
pub lacking_told : (form : Form) (place : ℕ) → fault_by (lacking form) place ≡ some (record { number = lacking form; line = line_at place; byte = byte_at place })
lacking_told (exactly x) place = refl
lacking_told bit place = refl
lacking_told a_tab place = refl
lacking_told a_feed place = refl
