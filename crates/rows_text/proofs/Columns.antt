-- Rows and their text, column by column: what is left of each at a column, and how long it is. Assumes nothing.
use mathlib.Core.Path.{◌≡◌, refl, sym, ap}
use mathlib.Core.Bool.{true}
use mathlib.Core.List.{List, [], ◌∷◌, ◌++◌, map}
use Prim.Native.Nat.{ℕ, zero, suc, ◌+◌, ◌*◌, ◌/◌, ◌≤◌, ◌<◌}
use native.Mathlib.Numerals.{add-one}
use native.Mathlib.Omega.{arith}
use borrow.Author.Tests.{leb-true}
use lib.Dec.{leb}
use lib.ListN.{length, drop, drop_of_length-le, get_or, set}
use lib.Seq.{sets, drop-cons}
use Rattle.protocol.specs.Text.{column_line, column_lines, rows_text, row_in}
use Rattle.std.specs.Simd.{first_chunks}
use Rattle.laws.proofs.Every.{both}
use Rattle.job.specs.Bytes.{none_above, are_bits}
use Rattle.rows_text.specs.RowsText.{bit_at}

-- What is left of a row of bits, and of the column lines of two rows: one more, or none.
pub bit_more : (row : List ℕ) (b : ℕ) (rest : List ℕ) → are_bits row ≡ true → row ≡ b ∷ rest → (b ≤ 1) × (are_bits rest ≡ true)
unfolding are_bits none_above
bit_more row b rest e q = let parts = both (leb b 1) (none_above 1 rest) (rw q at e) in (leb-true b 1 parts.0, parts.1)

module _ (cdm cds : List ℕ) where
  pub column_more : (m s : ℕ) (ms ss : List ℕ) → cdm ≡ m ∷ ms → cds ≡ s ∷ ss
      → column_lines cdm cds ≡ column_line m s ++ column_lines ms ss
  unfolding column_lines
  column_more m s ms ss e f = rw (e, f)

  pub column_none : length cdm ≡ 0 → column_lines cdm cds ≡ []
  unfolding column_lines
  column_none e = rw (empty cdm e)
    where
      empty : (l : List ℕ) → length l ≡ 0 → l ≡ []
      empty [] e = refl
      empty (x ∷ l) e = absurd (omega arith)

-- The text of two rows of one length: eight bytes, and four for each column.
pub lines_length : (cdm cds : List ℕ) → length cdm ≡ length cds → length (column_lines cdm cds) ≡ 4 * length cdm
unfolding column_lines
lines_length [] cds e = refl
lines_length (m ∷ ms) [] e = absurd (omega arith)
lines_length (m ∷ ms) (s ∷ ss) e = omega (arith, lines_length ms ss (omega arith))

pub text_length : (cdm cds : List ℕ) → length cdm ≡ length cds → length (rows_text cdm cds) ≡ 8 + 4 * length cdm
unfolding rows_text
text_length cdm cds e = omega (arith, lines_length cdm cds e)

-- The row at a place of a text's lines: a digit for each whole line, so none of a shorter text.
pub row_length : (place : ℕ) (text : List ℕ) → length (row_in place text) ≡ length text / 4
unfolding row_in
row_length place [] = refl
row_length place (a ∷ []) = refl
row_length place (a ∷ b ∷ []) = refl
row_length place (a ∷ b ∷ c ∷ []) = refl
row_length place (a ∷ b ∷ c ∷ d ∷ text) = omega (arith, row_length place text)

short_row : (place : ℕ) (text : List ℕ) → length text < 4 → row_in place text ≡ []
unfolding row_in
short_row place [] h = refl
short_row place (a ∷ []) h = refl
short_row place (a ∷ b ∷ []) h = refl
short_row place (a ∷ b ∷ c ∷ []) h = refl
short_row place (a ∷ b ∷ c ∷ d ∷ text) h = absurd (omega arith)

-- It is the digits at that place of the lines that the text is taken by.
pub row_of_lines : (place n : ℕ) (text : List ℕ) → n ≡ length text / 4 → map (bit_at place) (first_chunks 4 n text) ≡ row_in place text
unfolding row_in
row_of_lines place zero text e = sym (short_row place text (omega arith))
row_of_lines place (suc n) [] e = absurd (omega arith)
row_of_lines place (suc n) (a ∷ []) e = absurd (omega arith)
row_of_lines place (suc n) (a ∷ b ∷ []) e = absurd (omega arith)
row_of_lines place (suc n) (a ∷ b ∷ c ∷ []) e = absurd (omega arith)
row_of_lines place (suc n) (a ∷ b ∷ c ∷ d ∷ text) e =
    ap (λ (row : List ℕ). bit_at place (a ∷ b ∷ c ∷ d ∷ []) ∷ row) (row_of_lines place n text (omega arith))

-- The bits of lines from line k on, laid on a row: one more, or none.
module _ (lines : List (List ℕ)) (row : List ℕ) (k place : ℕ) where
  pub bit_laid : k < length lines
      → sets (set row k (bit_at place (get_or lines k []))) (k + 1) (map (bit_at place) (drop (k + 1) lines)) ≡ sets row k (map (bit_at place) (drop k lines))
  bit_laid h = rw (drop-cons lines k [] h, add-one)

  pub no_bit : length lines ≤ k → sets row k (map (bit_at place) (drop k lines)) ≡ row
  no_bit h = rw (drop_of_length-le lines h)
