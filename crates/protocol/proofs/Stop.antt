-- Where a text of rows stops, by the form of each place: line by line, and piece by piece; and that every byte before has its form.
-- What is told of a stop is in Fault. Assumes nothing.
use mathlib.Core.Path.{◌≡◌, refl, sym, ◌∙◌}
use mathlib.Core.Bool.{true, false, false≢true}
use mathlib.Core.List.{List, [], ◌∷◌, ◌++◌}
use Prim.Native.Nat.{ℕ, zero, suc, ◌+◌, ◌-◌, ◌*◌, ◌%◌, ◌≤◌, ◌<◌}
use native.Mathlib.Nat.{add-zero}
use native.Mathlib.Omega.{arith}
use borrow.Author.Tests.{le-ltb}
use lib.ListN.{length, drop, get_or}
use Rattle.protocol.specs.Text.{Form, bit, has, header_form, column_form, begins}
use Rattle.protocol.specs.Fault.{form_at, stop}
use Rattle.laws.proofs.Every.{tested, both}

-- A stop lies in the text or at its end.
pub stop_low : (p : ℕ) (text : List ℕ) → (p ≤ stop p text) × (stop p text ≤ p + length text)
unfolding stop
stop_low p [] = omega arith
stop_low p (b ∷ text) =
    tested (has (form_at p) b) (λ q. rw q (omega (arith, stop_low (p + 1) text))) (λ q. rw q (omega arith))

-- Below the header the form repeats itself, line by line.
form_again : (p n : ℕ) → 8 ≤ p → form_at (p + 4 * n) ≡ form_at p
form_again p n h =
    let same : (p + 4 * n - 8) % 4 ≡ (p - 8) % 4 = omega arith in
    rw (le-ltb p 8 h, le-ltb (p + 4 * n) 8 (omega arith), same)

pub stop_again : (p n : ℕ) (text : List ℕ) → 8 ≤ p → stop (p + 4 * n) text ≡ stop p text + 4 * n
unfolding stop
stop_again p n [] h = refl
stop_again p n (b ∷ text) h =
    let on : p + 4 * n + 1 ≡ p + 1 + 4 * n = omega arith in
    rw (form_again p n h)
    (tested (has (form_at p) b) (λ q. rw (q, on, stop_again (p + 1) n text (omega arith))) (λ q. rw q))

-- A text in pieces, each of which may begin anywhere: one that keeps its form leaves the stop to what comes behind it, any other has it.
module _ (rest : List ℕ) where
  pub stop_pieces : (p : ℕ) (piece : List ℕ) → stop p piece ≡ p + length piece → stop p (piece ++ rest) ≡ stop (p + length piece) rest
  unfolding stop
  stop_pieces p [] e = rw add-zero
  stop_pieces p (b ∷ piece) e =
      let on : p + suc (length piece) ≡ p + 1 + length piece = omega arith in
      tested (has (form_at p) b)
      (λ q. let behind = rw q at e in rw (q, on) (stop_pieces (p + 1) piece (behind ∙ on)))
      (λ q. absurd (let here = rw q at e in omega arith))

  pub stop_first : (p : ℕ) (piece : List ℕ) → stop p piece < p + length piece → stop p (piece ++ rest) ≡ stop p piece
  unfolding stop
  stop_first p [] h = absurd (omega arith)
  stop_first p (b ∷ piece) h =
      tested (has (form_at p) b)
      (λ q. let behind = rw q at h in rw q (stop_first (p + 1) piece (omega arith)))
      (λ q. rw q)

-- The bytes from a place on have these forms.
abbrev pub Forms : List Form → (place : ℕ) → Type 0
Forms [] p = Unit {0}
Forms (f ∷ form) p = (form_at p ≡ f) × Forms form (p + 1)

-- So have those of the header, and those of a column's line.
pub header_forms : Forms header_form 0
header_forms = (refl, (refl, (refl, (refl, (refl, (refl, (refl, (refl, tt))))))))

pub column_form_lem : (p i : ℕ) → 8 ≤ p → p % 4 ≡ i → form_at p ≡ get_or column_form i bit
column_form_lem p i h e = let there : (p - 8) % 4 ≡ i = omega arith in rw (le-ltb p 8 h, there)

pub column_forms : (p : ℕ) → 8 ≤ p → p % 4 ≡ 0 → Forms column_form p
column_forms p h e = (
  column_form_lem p 0 h (omega arith),
  (
    column_form_lem (p + 1) 1 (omega arith) (omega arith),
    (column_form_lem (p + 1 + 1) 2 (omega arith) (omega arith), (column_form_lem (p + 1 + 1 + 1) 3 (omega arith) (omega arith), tt)),
  ),
)

-- A line that a text begins with leaves the stop to what is behind it; of any other it is within the line.
pub through : (form : List Form) (p : ℕ) → Forms form p → (text : List ℕ) → begins form text ≡ true
    → stop p text ≡ stop (p + length form) (drop (length form) text)
unfolding stop begins
through [] p fs text h = rw add-zero
through (f ∷ form) p fs [] h = absurd (false≢true h)
through (f ∷ form) p fs (b ∷ text) h =
    let parts = both (has f b) (begins form text) h in
    let on : p + suc (length form) ≡ p + 1 + length form = omega arith in
    rw (fs.0, parts.0, on) (through form (p + 1) fs.1 text parts.1)

pub within : (form : List Form) (p : ℕ) → Forms form p → (text : List ℕ) → begins form text ≡ false → stop p text < p + length form
unfolding stop begins
within [] p fs text h = absurd (false≢true (sym h))
within (f ∷ form) p fs [] h = omega arith
within (f ∷ form) p fs (b ∷ text) h =
    rw fs.0
    (tested (has f b) (λ q. let behind = rw q at h in rw q (omega (arith, within form (p + 1) fs.1 text behind)))
    (λ q. rw q (omega arith)))

-- Every byte before a stop has its form, and the byte there has not.
pub before_stop : (p : ℕ) (text : List ℕ) (i : ℕ) → p + i < stop p text → (i < length text) × (has (form_at (p + i)) (get_or text i 0) ≡ true)
unfolding stop
before_stop p [] i h = absurd (omega arith)
before_stop p (b ∷ text) zero h =
    tested (has (form_at p) b) (λ q. (omega arith, rw (add-zero p) q)) (λ q. absurd (let here = rw q at h in omega arith))
before_stop p (b ∷ text) (suc i) h =
    let on : p + suc i ≡ p + 1 + i = omega arith in
    tested (has (form_at p) b)
    (λ q. let there = before_stop (p + 1) text i (rw (q, on) at h) in (omega arith, rw on there.1))
    (λ q. absurd (let here = rw q at h in omega arith))

pub at_stop : (p : ℕ) (text : List ℕ) (i : ℕ) → p + i ≡ stop p text → i < length text → has (form_at (p + i)) (get_or text i 0) ≡ false
unfolding stop
at_stop p [] i e h = absurd (omega arith)
at_stop p (b ∷ text) zero e h =
    tested (has (form_at p) b)
    (λ q. absurd (let behind = rw q at e in omega (arith, (stop_low (p + 1) text).0)))
    (λ q. rw (add-zero p) q)
at_stop p (b ∷ text) (suc i) e h =
    let on : p + suc i ≡ p + 1 + i = omega arith in
    tested (has (form_at p) b)
    (λ q. rw on (at_stop (p + 1) text i (rw (q, on) at e) (omega arith)))
    (λ q. absurd (let here = rw q at e in omega arith))
