-- What is told of a text: line and byte lose nothing of a place; every byte before the place told has its form; nothing is told exactly
-- where no line is bad, and the line told is the first bad one; and only 13 to 17 are told. Assumes nothing.
use mathlib.Core.Path.{◌≡◌, refl, sym, ap, ◌∙◌}
use mathlib.Core.Bool.{true, false}
use mathlib.Core.List.{List, [], ◌∷◌}
use mathlib.Core.Option.{none, some, none-ne-some}
use Prim.Native.Nat.{ℕ, zero, suc, ◌+◌, ◌-◌, ◌*◌, ◌/◌, ◌%◌, ◌≤◌, ◌<◌, max}
use native.Mathlib.Nat.{add-zero, zero-add}
use native.Mathlib.Omega.{arith}
use borrow.Author.Tests.{lt-ltb, le-ltb, eq-eqb, ne_eqb, ltb-true, ltb-false, eqb-true}
use lib.Dec.{ltb, eqb}
use lib.ListN.{length, drop, get_or, length-drop}
use Rattle.protocol.specs.Text.{Form, exactly, bit, a_tab, a_feed, has, lacking, header_form, column_form, begins, fault, first_bad, bad_line}
use Rattle.protocol.specs.Fault.{line_at, byte_at, place_of, form_at, stop, Fault, fault_number, fault_by, fault_at, text_fault, fault_line}
use Rattle.laws.proofs.Every.{IfAny, either, tested}
use Rattle.protocol.proofs.Text.{begins_long}
use Rattle.protocol.proofs.Stop.{stop_low, Forms, header_forms, column_forms, through, within, before_stop, at_stop}

-- A place comes back from its line and its byte.
pub place_back : (p : ℕ) → place_of (line_at p) (byte_at p) ≡ p
place_back p =
    tested (ltb p 8) (λ q. rw q)
    (λ q. let below : 8 ≤ p = ltb-false p 8 q in rw (q, ne_eqb (2 + (p - 8) / 4) 1 (omega arith)) (omega arith))

-- The place that is told is the stop ..
stop_told : (n p : ℕ) (f : Fault) → fault_by n p ≡ some f → place_of f.line f.byte ≡ p
stop_told zero p f e = absurd (none-ne-some f e)
stop_told (suc n) p f e =
    let line : f.line ≡ line_at p = cc in
    let byte : f.byte ≡ byte_at p = cc in
    rw (line, byte) (place_back p)

-- .. so every byte before it has its form, and the byte there has not, if there is one: it is "the first bad byte".
module _ (text : List ℕ) (f : Fault) (e : text_fault text ≡ some f) where
  told_there : place_of f.line f.byte ≡ stop 0 text
  unfolding text_fault fault_at
  told_there = stop_told (fault_number (stop 0 text) (length text)) (stop 0 text) f e

  pub good_before : (i : ℕ) → i < place_of f.line f.byte → (i < length text) × (has (form_at i) (get_or text i 0) ≡ true)
  good_before i h = rw (zero-add i) at (before_stop 0 text i (rw (zero-add i) (rw told_there at h)))

  pub bad_there : (i : ℕ) → i ≡ place_of f.line f.byte → i < length text → has (form_at i) (get_or text i 0) ≡ false
  bad_there i there h = rw (zero-add i) at (at_stop 0 text i (rw (zero-add i) (there ∙ told_there)) h)

-- A byte that has not its form is refused by 13 to 16.
lacking_within : (f : Form) → (13 ≤ lacking f) × (lacking f ≤ 16)
lacking_within (exactly x) = omega arith
lacking_within bit = omega arith
lacking_within a_tab = omega arith
lacking_within a_feed = omega arith

-- No text may end in its header, or inside a column's line, whose number its places have.
in_header : (s end : ℕ) → s < 8 → 0 < fault_number s end
in_header s end h =
    tested (eqb s end)
    (λ e. rw (e, lt-ltb s 8 h) (tested (eqb s 0) (λ q. rw q (omega arith)) (λ q. rw q (omega arith))))
    (λ e. rw e (omega (arith, lacking_within (form_at s))))

module _ (n s end : ℕ) (after : 8 + 4 * n ≤ s) (before : s < 12 + 4 * n) where
  in_line : 8 + 4 * n < end → 0 < fault_number s end
  in_line h =
      tested (eqb s end)
      (λ e.
      let last = eqb-true s end e in
      rw (e, ne_eqb s 0 (omega arith), le-ltb s 8 (omega arith), ne_eqb ((s - 8) % 4) 0 (omega arith)) (omega arith))
      (λ e. rw e (omega (arith, lacking_within (form_at s))))

  line_there : line_at s ≡ suc (n + 1)
  line_there = rw (le-ltb s 8 (omega arith)) (omega arith)

-- What a number that is not 0 tells.
pub fault_by_lem : (n p : ℕ) → 0 < n → fault_by n p ≡ some (record { number = n; line = line_at p; byte = byte_at p })
fault_by_lem zero p h = absurd (omega arith)
fault_by_lem (suc n) p h = refl

told_line : (s end : ℕ) → 0 < fault_number s end → fault_line (fault_at s end) ≡ line_at s
unfolding fault_at
told_line s end h = ap fault_line (fault_by_lem (fault_number s end) s h)

-- What is told of a text from column n on, by its line.
abbrev told : (n : ℕ) → (text : List ℕ) → ℕ
told n text = fault_line (fault_at (stop (8 + 4 * n) text) (8 + 4 * n + length text))

module _ (n : ℕ) (text : List ℕ) where
  abbrev p : ℕ
  p = 8 + 4 * n

  forms : Forms column_form p
  forms = column_forms p (omega arith) (omega arith)

  good_told : begins column_form text ≡ true → told n text ≡ told (n + 1) (drop 4 text)
  good_told q =
      let on : p + 4 ≡ 8 + 4 * (n + 1) = omega arith in
      let end : p + length text ≡ 8 + 4 * (n + 1) + length (drop 4 text) = omega (arith, begins_long column_form text q, length-drop 4 text) in
      rw (through column_form p forms text q, on, end)

  bad_told : 0 < length text → begins column_form text ≡ false → told n text ≡ suc (n + 1)
  bad_told h q =
      let s = stop p text in
      let end : ℕ = p + length text in
      let low = (stop_low p text).0 in
      let high : s < 12 + 4 * n = omega (arith, within column_form p forms text q) in
      told_line s end (in_line n s end low high (omega arith)) ∙ line_there n s end low high

  cut_told : 0 < length text → length text < 4 → told n text ≡ fault column_form (n + 1) text
  unfolding fault
  cut_told h k =
      tested (begins column_form text) (λ q. absurd (omega (arith, begins_long column_form text q))) (λ q. rw q (bad_told h q))

lines_told : (n : ℕ) (text : List ℕ) → told n text ≡ first_bad (n + 1) text
unfolding first_bad fault fault_at stop begins
lines_told n [] =
    let start : (p n [] - 8) % 4 ≡ 0 = omega arith in
    rw (add-zero (p n []), eq-eqb (p n []) (p n []) refl, le-ltb (p n []) 8 (omega arith), start, ne_eqb (p n []) 0 (omega arith))
lines_told n (a ∷ []) = cut_told n (a ∷ []) (omega arith) (omega arith)
lines_told n (a ∷ b ∷ []) = cut_told n (a ∷ b ∷ []) (omega arith) (omega arith)
lines_told n (a ∷ b ∷ c ∷ []) = cut_told n (a ∷ b ∷ c ∷ []) (omega arith) (omega arith)
lines_told n (a ∷ b ∷ c ∷ d ∷ text) =
    let line = a ∷ b ∷ c ∷ d ∷ text in
    tested (begins column_form (a ∷ b ∷ c ∷ d ∷ []))
    (λ q. good_told n line q ∙ (lines_told (n + 1) text ∙ sym (rw q)))
    (λ q. bad_told n line (omega arith) q ∙ sym (rw q))

-- The line of a text's fault is its first bad line, 0 where nothing is wrong.
pub same_line : (text : List ℕ) → fault_line (text_fault text) ≡ bad_line text
unfolding text_fault bad_line fault fault_at
same_line text = tested (begins header_form text) (λ q.
    let long : length text ≡ 8 + length (drop 8 text) = omega (arith, begins_long header_form text q, length-drop 8 text) in
    ap (λ (s : ℕ). fault_line (fault_at s (length text))) (through header_form 0 header_forms text q)
    ∙ (ap (λ (end : ℕ). fault_line (fault_at (stop 8 (drop 8 text)) end)) long ∙ (lines_told 0 (drop 8 text) ∙ sym (rw q))))
    (λ q.
    let here : stop 0 text < 8 = within header_form 0 header_forms text q in
    told_line (stop 0 text) (length text) (in_header (stop 0 text) (length text) here) ∙ sym (rw (q, lt-ltb (stop 0 text) 8 here)))

-- So no fault is told exactly where no line is bad.
line_some : (p : ℕ) → 0 < line_at p
line_some p = either (λ n. 0 < n) (ltb p 8) (omega arith) (omega arith)

no_line : (n p : ℕ) → fault_line (fault_by n p) ≡ 0 → fault_by n p ≡ none
no_line zero p e = refl
no_line (suc n) p e = absurd (omega (arith, line_some p))

pub nothing_wrong : (text : List ℕ) → text_fault text ≡ none → bad_line text ≡ 0
nothing_wrong text e = sym (same_line text) ∙ ap fault_line e

pub nothing_told : (text : List ℕ) → bad_line text ≡ 0 → text_fault text ≡ none
unfolding text_fault fault_at
nothing_told text e = no_line (fault_number (stop 0 text) (length text)) (stop 0 text) (same_line text ∙ e)

-- A stop before the end tells the same, wherever the end is.
pub fault_inside : (at end other : ℕ) → at < end → at < other → fault_at at end ≡ fault_at at other
unfolding fault_at
fault_inside at end other h k = rw (ne_eqb at end (omega arith), ne_eqb at other (omega arith))

-- What is told of a text, by its stop and the number there.
module _ (text : List ℕ) (at number : ℕ) (e : at ≡ stop 0 text) (n : number ≡ fault_number at (length text)) where
  pub fault_of : text_fault text ≡ fault_by number at
  unfolding text_fault fault_at
  fault_of = rw (← e, ← n)

  pub fault_none : number ≡ 0 → text_fault text ≡ none
  fault_none z = fault_of ∙ rw z

-- All that is told is small: a number from 13 to 17, a line of four bytes or the header of eight.
pub record Low (bytes : ℕ) (f : Fault) : Type 0 where
  pub number_from : 13 ≤ f.number
  pub number_low : f.number ≤ 17
  pub line_from : 1 ≤ f.line
  pub line_low : f.line ≤ max 1 (bytes / 4)
  pub byte_low : f.byte < 8

-- .. where 0 stands for none.
abbrev Within : (number : ℕ) → Type 0
Within n = (0 < n → 13 ≤ n) × (n ≤ 17)

module _ (p end : ℕ) where
  number_within : Within (fault_number p end)
  number_within =
      let form = lacking_within (form_at p) in
      either Within (eqb p end)
      (either Within (eqb p 0) (λ h. omega arith, omega arith) (either Within (eqb (byte_at p) 0) (λ h. omega arith, omega arith) (λ h. omega arith, omega arith)))
      (λ h. form.0, omega arith)

  line_low : p ≤ end → line_at p ≤ max 1 (end / 4)
  line_low h = tested (ltb p 8) (λ q. rw q (omega arith)) (λ q. rw q (omega (arith, ltb-false p 8 q)))

  byte_low : byte_at p < 8
  byte_low = tested (ltb p 8) (λ q. rw q (ltb-true p 8 q)) (λ q. rw q (omega arith))

low_by : (n p end : ℕ) → Within n → p ≤ end → IfAny (Low end) (fault_by n p)
low_by zero p end h k = tt
low_by (suc n) p end h k =
    record {
      number_from = h.0 (omega arith);
      number_low = h.1;
      line_from = line_some p;
      line_low = line_low p end k;
      byte_low = byte_low p end;
    }

pub fault_low : (at end : ℕ) → at ≤ end → IfAny (Low end) (fault_at at end)
unfolding fault_at
fault_low at end h = low_by (fault_number at end) at end (number_within at end) h

pub text_low : (text : List ℕ) → IfAny (Low (length text)) (text_fault text)
unfolding text_fault
text_low text = fault_low (stop 0 text) (length text) (omega (arith, (stop_low 0 text).1))
