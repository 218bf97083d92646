-- Text: "Rows go to text and back unchanged." There and back, and back and there. Assumes nothing.
use mathlib.Core.Path.{◌≡◌, refl, ap, ◌∙◌}
use mathlib.Core.Bool.{true, false≢true}
use mathlib.Core.List.{List, [], ◌∷◌, ◌++◌, map}
use Prim.Native.Nat.{ℕ, zero, suc, ◌+◌, ◌-◌, ◌%◌, ◌≤◌, ◌<◌}
use native.Mathlib.Omega.{arith}
use borrow.Author.Tests.{eqb-true}
use lib.Dec.{eqb}
use lib.ListN.{length, drop, get_or}
use lib.Seq.{drop-cons}
use Rattle.protocol.specs.Text.{tab, feed, digit, rows_header, column_line, column_lines, rows_text, Form, exactly, bit, has, header_form, column_form, begins, fault, or_else, first_bad, bad_line, row_in, cdm_of, cds_of}
use Rattle.laws.proofs.Every.{Every, tested, both}

-- Columns: "A row holds one byte per column, 0 or 1."
abbrev pub Bits : List ℕ → Type 0
Bits row = Every (λ b. b < 2) row

-- A bit's digit has the form of one, and its remainder by two is the bit.
bit_has : (b : ℕ) → b < 2 → has bit (digit b) ≡ true
bit_has zero h = refl
bit_has (suc zero) h = refl
bit_has (suc (suc b)) h = absurd (omega arith)

digit_bit : (b : ℕ) → b < 2 → digit b % 2 ≡ b
digit_bit b h = omega arith

-- The column lines of two rows have no bad line, and give the rows back.
pub lines_good : (before : ℕ) (ms ss : List ℕ) → Bits ms → Bits ss → first_bad before (column_lines ms ss) ≡ 0
unfolding first_bad column_lines fault begins
lines_good before [] ss p q = refl
lines_good before (m ∷ ms) [] p q = refl
lines_good before (m ∷ ms) (s ∷ ss) p q =
    rw (bit_has m p.0, bit_has s q.0) (lines_good (before + 1) ms ss p.1 q.1)

pub lines_back : (ms ss : List ℕ) → length ms ≡ length ss → Bits ms → Bits ss
    → (row_in 0 (column_lines ms ss) ≡ ms) × (row_in 2 (column_lines ms ss) ≡ ss)
unfolding row_in column_lines
lines_back [] [] e p q = (refl, refl)
lines_back [] (s ∷ ss) e p q = absurd (omega arith)
lines_back (m ∷ ms) [] e p q = absurd (omega arith)
lines_back (m ∷ ms) (s ∷ ss) e p q =
    let behind = lines_back ms ss (omega arith) p.1 q.1 in
    (rw (digit_bit m p.0, behind.0), rw (digit_bit s q.0, behind.1))

-- Rows go to text and back.
pub record Back (cdm cds text : List ℕ) : Type 0 where
  pub good : bad_line text ≡ 0
  pub cdm_back : cdm_of text ≡ cdm
  pub cds_back : cds_of text ≡ cds

pub there_and_back : (cdm cds : List ℕ) → length cdm ≡ length cds → Bits cdm → Bits cds → Back cdm cds (rows_text cdm cds)
unfolding bad_line rows_text cdm_of cds_of fault begins
there_and_back cdm cds e p q =
    record {
      good = lines_good 1 cdm cds p q;
      cdm_back = (lines_back cdm cds e p q).0;
      cds_back = (lines_back cdm cds e p q).1;
    }

-- What a line of its form is: the header itself, and a column's line of its digits' bits.
has_bit : (b : ℕ) → has bit b ≡ true → b ≡ digit (b % 2)
has_bit b h =
    tested (eqb b (digit 0)) (λ q. let e : b ≡ 48 = eqb-true b 48 q in omega arith)
    (λ q. let e : b ≡ 49 = eqb-true b 49 (rw q at h) in omega arith)

begins_exactly : (line text : List ℕ) → begins (map exactly line) text ≡ true → text ≡ line ++ drop (length line) text
unfolding begins
begins_exactly [] text h = refl
begins_exactly (x ∷ line) [] h = absurd (false≢true h)
begins_exactly (x ∷ line) (b ∷ text) h =
    let parts = both (eqb b x) (begins (map exactly line) text) h in
    let first : b ≡ x = eqb-true b x parts.0 in
    let rest : text ≡ line ++ drop (length line) text = begins_exactly line text parts.1 in
    cc

begins_column : (a b c d : ℕ) → begins column_form (a ∷ b ∷ c ∷ d ∷ []) ≡ true → a ∷ b ∷ c ∷ d ∷ [] ≡ column_line (a % 2) (c % 2)
unfolding begins
begins_column a b c d h =
    let one = both (has bit a) _ h in
    let two = both (eqb b tab) _ one.1 in
    let three = both (has bit c) _ two.1 in
    let four = both (eqb d feed) true three.1 in
    let first : a ≡ digit (a % 2) = has_bit a one.0 in
    let second : b ≡ tab = eqb-true b tab two.0 in
    let third : c ≡ digit (c % 2) = has_bit c three.0 in
    let fourth : d ≡ feed = eqb-true d feed four.0 in
    cc

-- Nothing is told of a line exactly where it has its form; of two faults none where there is neither.
no_fault : (form : List Form) (before : ℕ) (text : List ℕ) → fault form before text ≡ 0 → begins form text ≡ true
unfolding fault
no_fault form before text e = tested (begins form text) (λ q. q) (λ q. absurd (let z = rw q at e in omega arith))

pub neither : (fault rest : ℕ) → or_else fault rest ≡ 0 → (fault ≡ 0) × (rest ≡ 0)
neither zero rest e = (refl, e)
neither (suc n) rest e = absurd (omega arith)

-- A text that begins with a line is as long, so a line of fewer than four bytes is cut short.
pub begins_long : (form : List Form) (text : List ℕ) → begins form text ≡ true → length form ≤ length text
unfolding begins
begins_long [] text h = omega arith
begins_long (f ∷ form) [] h = absurd (false≢true h)
begins_long (f ∷ form) (b ∷ text) h = omega (arith, begins_long form text (both (has f b) (begins form text) h).1)

cut_short : (before : ℕ) (text : List ℕ) → fault column_form before text ≡ 0 → length text < 4 → ⊥
cut_short before text e k = omega (arith, begins_long column_form text (no_fault column_form before text e))

-- Column lines without a bad line are those of their bits.
pub good_lines : (before : ℕ) (text : List ℕ) → first_bad before text ≡ 0 → text ≡ column_lines (row_in 0 text) (row_in 2 text)
unfolding first_bad column_lines row_in
good_lines before [] e = refl
good_lines before (a ∷ []) e = absurd (cut_short before (a ∷ []) e (omega arith))
good_lines before (a ∷ b ∷ []) e = absurd (cut_short before (a ∷ b ∷ []) e (omega arith))
good_lines before (a ∷ b ∷ c ∷ []) e = absurd (cut_short before (a ∷ b ∷ c ∷ []) e (omega arith))
good_lines before (a ∷ b ∷ c ∷ d ∷ text) e =
    let parts = neither (fault column_form before (a ∷ b ∷ c ∷ d ∷ [])) (first_bad (before + 1) text) e in
    let first = begins_column a b c d (no_fault column_form before _ parts.0) in
    let rest : text ≡ column_lines (row_in 0 text) (row_in 2 text) = good_lines (before + 1) text parts.1 in
    cc

-- A text without a bad line is exactly the text of its rows.
pub back_and_there : (text : List ℕ) → bad_line text ≡ 0 → text ≡ rows_text (cdm_of text) (cds_of text)
unfolding bad_line rows_text cdm_of cds_of
back_and_there text e =
    let parts = neither (fault header_form 0 text) _ e in
    begins_exactly rows_header text (no_fault header_form 0 text parts.0)
    ∙ ap (λ (l : List ℕ). rows_header ++ l) (good_lines 1 _ parts.1)

-- .. and has its header.
pub good_long : (text : List ℕ) → bad_line text ≡ 0 → length rows_header ≤ length text
unfolding bad_line
good_long text e =
    begins_long header_form text (no_fault header_form 0 text (neither (fault header_form 0 text) _ e).0)

-- The first four bytes of a text from a place on.
pub four : (text : List ℕ) (i : ℕ) → 4 ≤ length text - i
    → drop i text ≡ get_or text i 0 ∷ get_or text (i + 1) 0 ∷ get_or text (i + 2) 0 ∷ get_or text (i + 3) 0 ∷ drop (i + 4) text
four text i h =
    let one : suc i ≡ i + 1 = omega arith in
    let two : suc (i + 1) ≡ i + 2 = omega arith in
    let three : suc (i + 2) ≡ i + 3 = omega arith in
    let last : suc (i + 3) ≡ i + 4 = omega arith in
    rw (
      drop-cons text i 0 (omega arith),
      one,
      drop-cons text (i + 1) 0 (omega arith),
      two,
      drop-cons text (i + 2) 0 (omega arith),
      three,
      drop-cons text (i + 3) 0 (omega arith),
      last,
    )
