-- What a reading makes of one column, and of the rows from a column on. Assumes nothing.
use mathlib.Core.Path.{◌≡◌, refl, sym, ap, ◌∙◌}
use mathlib.Core.Bool.{Bool, true}
use mathlib.Core.List.{List, [], ◌∷◌}
use mathlib.Core.Option.{Option, none, some, none-ne-some}
use Prim.Native.Nat.{ℕ, zero, suc, ◌+◌, ◌-◌, ◌≤◌, ◌<◌}
use native.Mathlib.Nat.{le_refl, le_of_suc-le-suc, not-suc-le-zero, add-zero}
use native.Mathlib.Numerals.{add-one}
use native.Mathlib.Omega.{arith}
use lib.ListN.{length, take, drop, get_or, length-drop}
use lib.Seq.{take_all}
use Rattle.std.specs.Prelude.{Some, None}
use Rattle.protocol.specs.Bits.{bit_of, row_of}
use Rattle.protocol.specs.Rest.{Timed, framed, power_on}
use Rattle.protocol.specs.Entries as protocol
use Rattle.protocol.specs.Entries.{opened, onward, note}
use Rattle.protocol.specs.Banks.{unknown, learnt, learnt_all, bank_of, banked}
use Rattle.protocol.specs.Reader as Reader
use Rattle.protocol.specs.Reader.{Phase, look, begun, Column, col, columns, entries, place_after, entries_from, list_from}
use Rattle.protocol.proofs.Machine.{silent_outside}
use Rattle.protocol.proofs.Banks.{length_banked}
use Rattle.laws.proofs.Every.{either, tested}
use Rattle.reader.specs.Code.{state_of, place_of, event_of, says_of, Moved, moved, after}
use Rattle.reader.specs.declared.Event.{Event}
use Rattle.reader.specs.declared.Reader as code
use Rattle.reader.specs.declared.Stepped.{Stepped}
use Rattle.read.specs.Read.{list_of}
use Rattle.read.specs.Parts.{entry_of, kept, kept_all, Reached, reached}

-- The column at i stands first of what is left ..
first_left : (i : ℕ) (ms xs : List ℕ) → i < length ms → i < length xs
    → drop i (columns (row_of ms) (row_of xs)) ≡ col (bit_of (get_or ms i 0)) (bit_of (get_or xs i 0)) ∷ drop (suc i) (columns (row_of ms) (row_of xs))
unfolding columns row_of
first_left i [] xs h g = absurd (not-suc-le-zero h)
first_left i (m ∷ ms) [] h g = absurd (not-suc-le-zero g)
first_left zero (m ∷ ms) (x ∷ xs) h g = refl
first_left (suc i) (m ∷ ms) (x ∷ xs) h g = first_left i ms xs (le_of_suc-le-suc h) (le_of_suc-le-suc g)

pub column_here : (i : ℕ) (ms xs : List ℕ) → i < length ms → i < length xs
    → drop i (columns (row_of ms) (row_of xs)) ≡ col (bit_of (get_or ms i 0)) (bit_of (get_or xs i 0)) ∷ drop (i + 1) (columns (row_of ms) (row_of xs))
column_here i ms xs h g = rw add-one (first_left i ms xs h g)

-- .. and past the last there is none.
pub length_columns : (ms xs : List ℕ) → length (columns (row_of ms) (row_of xs)) ≤ length ms
unfolding columns row_of
length_columns [] xs = omega arith
length_columns (m ∷ ms) [] = omega arith
length_columns (m ∷ ms) (x ∷ xs) = omega (arith, length_columns ms xs)

-- No start lies behind its column.
pub start_early : (s : Timed Phase) (p : protocol.Place) → p.start ≤ p.column → (onward s p).start ≤ suc p.column
start_early s p h = either (λ n. n ≤ suc p.column) (framed s) (omega arith) (le_refl _)

-- "At most one entry falls in a column."
length_note : (p : protocol.Place) (o : Option protocol.Event) (es : List protocol.Entry) → length (note p o es) ≤ 1 + length es
length_note p none es = omega arith
length_note p (some e) es = omega arith

length_entries : (s : Timed Phase) (p : protocol.Place) (cs : List Column) → length (entries s p cs) ≤ length cs
unfolding entries
length_entries s p [] = omega arith
length_entries s p (col m x ∷ cs) =
    let t : Reader.Step = Reader.step s m x in
    omega (arith, length_note p t.says (entries t.state (onward t.state p) cs), length_entries t.state (onward t.state p) cs)

pub length_listed : (k : ℕ) (cdm cds : List ℕ) → length (list_of k cdm cds) ≤ length cdm - k
unfolding list_of list_from entries_from
length_listed k cdm cds =
    omega (
      arith,
      length_banked unknown (entries power_on (opened k) (drop k (columns (row_of cdm) (row_of cds)))),
      length_entries power_on (opened k) (drop k (columns (row_of cdm) (row_of cds))),
      length-drop k (columns (row_of cdm) (row_of cds)),
      length_columns cdm cds,
    )

-- A column without an event, and one with: what is reached from it is what is reached from behind it.
module _ (s : Timed Phase) (m x : Bool) (p : protocol.Place) (known : List ℕ) (n : ℕ) (out : List ℕ) (cs : List Column) where
  abbrev next : Reader.Step
  next = Reader.step s m x

  abbrev from : List ℕ → ℕ → List ℕ → Reached
  from known' n' out' = reached next.state (onward next.state p) known' n' out' cs

  silent : next.says ≡ none → reached s p known n out (col m x ∷ cs) ≡ from known n out
  unfolding reached entries place_after Reader.after
  silent q = rw q

  given : (e : protocol.Event) → next.says ≡ some e
      → reached s p known n out (col m x ∷ cs) ≡ from (learnt known e) (n + 1) (kept out n (entry_of p e (bank_of known e)))
  unfolding reached entries place_after Reader.after banked learnt_all kept_all
  given e q =
      let es : List protocol.Entry = entries next.state (onward next.state p) cs in
      rw q
      (ap (λ (k : ℕ). record {
        state = Reader.after next.state cs;
        place = place_after next.state (onward next.state p) cs;
        known = learnt_all (learnt known e) es;
        count = k;
        buffer = kept_all (kept out n (entry_of p e (bank_of known e))) (n + 1) (banked (learnt known e) es);
      }) (more (length es)))
    where
      more : (k : ℕ) → n + suc k ≡ n + 1 + k
      more k = omega arith

-- A step of the code in a column of the row.
module _ (reader : code.Reader) (column : ℕ) (m x : Bool) (r : Stepped)
    (steps : after column r ≡ moved (Reader.step (state_of reader) m x) (place_of reader column)) where
  abbrev step : Reader.Step
  step = Reader.step (state_of reader) m x

  state_is : state_of r.next ≡ step.state
  unfolding after moved
  state_is = ap (λ (v : Moved). v.state) steps

  place_is : place_of r.next (column + 1) ≡ onward step.state (place_of reader column)
  unfolding after moved
  place_is = rw add-one (ap (λ (v : Moved). v.place) steps)

  says_is : says_of r.event ≡ step.says
  unfolding after moved
  says_is = ap (λ (v : Moved). v.says) steps

  pub still_early : (place_of reader column).start ≤ column → (place_of r.next (column + 1)).start ≤ column + 1
  still_early early =
      rw (ap (λ (p : protocol.Place). p.start) place_is, add-one) (start_early step.state (place_of reader column) early)

  -- Only a frame shows an event, and there the S that the reader holds is the frame's.
  module _ (e : Event) (shown : r.event ≡ Some e) where
    says_some : step.says ≡ some (event_of e)
    says_some = sym says_is ∙ ap says_of shown

    within_frame : framed (state_of reader) ≡ true
    unfolding Reader.step
    within_frame =
        tested (framed (state_of reader)) (λ f. f)
        (λ f.
        let silence : step.says ≡ none = silent_outside begun none _ (λ p. look p m x) (state_of reader) m f in
        absurd (none-ne-some _ (sym silence ∙ says_some)))

    its_place : record { column = column; start = reader.start } ≡ place_of reader column
    its_place = rw within_frame

    pub early_enough : (place_of reader column).start ≤ column → reader.start ≤ column
    early_enough early = rw within_frame at early

  -- The column stands first of what is left.
  module _ (known : List ℕ) (n : ℕ) (out : List ℕ) {cs rest : List Column} (here : cs ≡ col m x ∷ rest) where
    abbrev before : Reached
    before = reached (state_of reader) (place_of reader column) known n out cs

    abbrev to : List ℕ → ℕ → List ℕ → Reached
    to known' n' out' = reached (state_of r.next) (place_of r.next (column + 1)) known' n' out' rest

    pub turn_none : r.event ≡ None → before ≡ to known n out
    turn_none e =
        rw (here, place_is, state_is) (silent (state_of reader) m x (place_of reader column) known n out rest (sym says_is ∙ ap says_of e))

    pub turn_some : (e : Event) → r.event ≡ Some e
        → before
        ≡ to (learnt known (event_of e)) (n + 1)
        (kept out n (entry_of (record { column = column; start = reader.start }) (event_of e) (bank_of known (event_of e))))
    turn_some e shown =
        rw (its_place e shown, here, place_is, state_is)
        (given (state_of reader) m x (place_of reader column) known n out rest (event_of e) (says_some e shown))

-- At the end nothing is left.
pub none_left : (cs : List Column) → cs ≡ [] → (s : Timed Phase) (p : protocol.Place) (known : List ℕ) (n : ℕ) (out : List ℕ)
    → reached s p known n out cs ≡ record { state = s; place = p; known = known; count = n; buffer = out }
unfolding reached entries place_after Reader.after banked learnt_all kept_all
none_left cs e s p known n out = rw (e, add-zero)

-- From power-on at column k: the list.
columns_from : (k : ℕ) (cdm cds : List ℕ) → columns (row_of (drop k cdm)) (row_of (drop k cds)) ≡ drop k (columns (row_of cdm) (row_of cds))
unfolding columns row_of
columns_from zero cdm cds = refl
columns_from (suc k) [] cds = refl
columns_from (suc k) (m ∷ cdm) [] = rw (nothing (drop k cdm))
  where
    nothing : (row : List ℕ) → columns (row_of row) [] ≡ []
    nothing [] = refl
    nothing (m ∷ row) = refl
columns_from (suc k) (m ∷ cdm) (x ∷ cds) = columns_from k cdm cds

-- What a slice from k on holds.
abbrev behind : ℕ → List ℕ → List ℕ
behind k row = take (length row - k) (drop k row)

behind_is : (k : ℕ) (row : List ℕ) → behind k row ≡ drop k row
behind_is k row = take_all (length row - k) (drop k row) (omega (arith, length-drop k row))

pub from_opening : (cdm cds : List ℕ) (k n : ℕ) (s : Timed Phase) (p : protocol.Place) (out : List ℕ) (r : Reached) → s ≡ power_on
    → p ≡ opened k → r ≡ reached s p unknown n out (columns (row_of (behind k cdm)) (row_of (behind k cds)))
    → (r.count ≡ n + length (list_of k cdm cds)) × (r.buffer ≡ kept_all out n (list_of k cdm cds))
unfolding reached list_of list_from entries_from
from_opening cdm cds k n s p out r e h q =
    let all = rw (e, h, behind_is k cdm, behind_is k cds, columns_from k cdm cds) at q in
    (rw length_banked (ap (λ (v : Reached). v.count) all), ap (λ (v : Reached). v.buffer) all)
