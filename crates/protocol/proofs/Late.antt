-- Late opening: a reader let in at column k lists what the reader of the whole row lists from the first rest at or after k on, and
-- nothing where there is none. And that fourteen zeros bring a reader in any state to rest. Assumes nothing.
use mathlib.Core.Path.{◌≡◌, refl, sym, ap, ◌∙◌}
use mathlib.Core.Bool.{Bool, true, false, false≢true}
use mathlib.Core.List.{List, [], ◌∷◌, ◌++◌}
use mathlib.Core.Option.{Option, none, some}
use Prim.Native.Nat.{ℕ, zero, suc, ◌+◌, ◌-◌, ◌≤◌, ◌<◌}
use native.Mathlib.Nat.{le_refl, add-zero, suc-add}
use native.Mathlib.Omega.{arith}
use borrow.Author.Tests.{le-leb, lt-leb, ltb-true, ltb-false}
use lib.Dec.{ltb}
use lib.ListN.{length, take, drop, replicate, take-append-drop, length-drop}
use lib.Seq.{take-add, drop-drop, length-take-le}
use Rattle.protocol.specs.Limits.{rest_zeros}
use Rattle.protocol.specs.Rest.{Timed, power, rest, frame, framed, power_on, judge, timer}
use Rattle.protocol.specs.Entries.{Event, Place, opened, onward, Entry, note}
use Rattle.protocol.specs.Reader.{Phase, look, Column, col, columns, step, begun, entries, after, place_after, entries_from, list_from}
use Rattle.protocol.specs.Banks.{Banked, unknown, learnt_all, banked}
use Rattle.protocol.specs.Late.{Zeros, FourteenAt, FirstFourteen, NoFourteen, from_column, Agrees}
use Rattle.protocol.proofs.Rest.{Soon, soon_rest, fourteen}
use Rattle.protocol.proofs.Machine.{soon_step, every_note}
use Rattle.protocol.proofs.Banks.{every_banked, banked_append, length_learnt_all, agrees}
use Rattle.laws.proofs.Every.{Every, IfAny, tested}

-- The CDM row of the columns.
abbrev pub masters : List Column → List Bool
masters [] = []
masters (col m x ∷ cs) = m ∷ masters cs

-- Columns one after another: the entries of the first, and then those of the others from the state and the place they leave.
note_append : (p : Place) (o : Option Event) (es fs : List Entry) → note p o es ++ fs ≡ note p o (es ++ fs)
note_append p none es fs = refl
note_append p (some e) es fs = refl

pub entries_append : (s : Timed Phase) (p : Place) (xs ys : List Column)
    → entries s p (xs ++ ys) ≡ entries s p xs ++ entries (after s xs) (place_after s p xs) ys
unfolding entries after place_after
entries_append s p [] ys = refl
entries_append s p (col m x ∷ xs) ys =
    rw note_append (ap (note p (step s m x).says) (entries_append (step s m x).state (onward (step s m x).state p) xs ys))

pub after_append : (s : Timed Phase) (xs ys : List Column) → after s (xs ++ ys) ≡ after (after s xs) ys
unfolding after
after_append s [] ys = refl
after_append s (col m x ∷ xs) ys = after_append (step s m x).state xs ys

-- So many columns on, whatever they hold.
pub columns_on : (s : Timed Phase) (p : Place) (cs : List Column) → (place_after s p cs).column ≡ p.column + length cs
unfolding place_after
columns_on s p [] = rw add-zero
columns_on s p (col m x ∷ cs) = columns_on (step s m x).state (onward (step s m x).state p) cs ∙ omega arith

-- Rest: "fourteen zeros bring .. the reader to rest".
pub rests : (n : ℕ) (s : Timed Phase) (cs : List Column) → Soon begun n s → Zeros n (masters cs) → after s (take n cs) ≡ rest
unfolding after step Zeros
rests zero s cs h zs = soon_rest begun s h
rests (suc n) s [] h zs = absurd zs
rests (suc n) s (col true x ∷ cs) h zs = absurd zs
rests (suc n) s (col false x ∷ cs) h zs = rests n _ cs (soon_step begun _ _ (λ p. look p false x) s n h) zs

-- Out of a frame the start is the column itself: nothing of a frame is left.
abbrev Open : Timed Phase → Place → Type 0
Open s p = framed s ≡ false → p ≡ opened p.column

open_on : (s : Timed Phase) (p : Place) → Open s (onward s p)
open_on (power z) p e = refl
open_on rest p e = refl
open_on (frame z q) p e = absurd (false≢true (sym e))

open_after : (s : Timed Phase) (p : Place) (cs : List Column) → Open s p → Open (after s cs) (place_after s p cs)
unfolding after place_after
open_after s p [] h = h
open_after s p (col m x ∷ cs) h = open_after (step s m x).state _ cs (open_on (step s m x).state p)

-- The entries of columns i to j - 1.
abbrev pub Within : (i j : ℕ) → Entry → Type 0
Within i j e = (i ≤ e.place.column) × (e.place.column < j)

within : (s : Timed Phase) (p : Place) (cs : List Column) (i j : ℕ) → i ≤ p.column → p.column + length cs ≤ j
    → Every (Within i j) (entries s p cs)
unfolding entries
within s p [] i j h k = tt
within s p (col m x ∷ cs) i j h k =
    every_note (Within i j) p (step s m x).says (entries (step s m x).state (onward (step s m x).state p) cs) (here (step s m x).says)
    (within (step s m x).state (onward (step s m x).state p) cs i j (omega arith) (omega arith))
  where
    here : (o : Option Event) → IfAny (λ e. Within i j (record { place = p; event = e })) o
    here none = tt
    here (some e) = omega arith

-- Entries before column j are left out, and those from column i on are all kept.
from_none : (i j : ℕ) (es fs : List Banked) → Every (λ e. Within i j e.entry) es → from_column j (es ++ fs) ≡ from_column j fs
unfolding from_column
from_none i j [] fs h = refl
from_none i j (e ∷ es) fs h = rw (lt-leb j e.entry.place.column h.0.1) (from_none i j es fs h.1)

from_all : (i j : ℕ) (es : List Banked) → Every (λ e. Within i j e.entry) es → from_column i es ≡ es
unfolding from_column
from_all i j [] h = refl
from_all i j (e ∷ es) h = rw (le-leb i e.entry.place.column h.0.0) (ap (λ (l : List Banked). e ∷ l) (from_all i j es h.1))

-- Fourteen zeros fit into the row that begins with them.
zeros_length : (n : ℕ) (ms : List Bool) → Zeros n ms → n ≤ length ms
unfolding Zeros
zeros_length zero ms zs = omega arith
zeros_length (suc n) [] zs = absurd zs
zeros_length (suc n) (true ∷ ms) zs = absurd zs
zeros_length (suc n) (false ∷ ms) zs = omega (arith, zeros_length n ms zs)

-- The CDM row is as long as the columns, and is cut where they are.
masters_length : (cs : List Column) → length (masters cs) ≡ length cs
masters_length [] = refl
masters_length (col m x ∷ cs) = ap suc (masters_length cs)

pub masters_drop : (n : ℕ) (cs : List Column) → masters (drop n cs) ≡ drop n (masters cs)
masters_drop zero cs = refl
masters_drop (suc n) [] = refl
masters_drop (suc n) (col m x ∷ cs) = masters_drop n cs

-- Of two rows of one length it is the first.
pub masters_columns : (ms xs : List Bool) → length ms ≡ length xs → masters (columns ms xs) ≡ ms
unfolding columns
masters_columns [] xs e = refl
masters_columns (m ∷ ms) [] e = absurd (omega arith)
masters_columns (m ∷ ms) (x ∷ xs) e = ap (λ (l : List Bool). m ∷ l) (masters_columns ms xs (omega arith))

-- Fourteen zeros at or after k, from column j on: what a reader let in at k lists up to their end, and then what a reader at rest lists.
module _ (cs : List Column) (k j : ℕ) (at_or_after : k ≤ j) (zeros : FourteenAt (masters cs) j) where
  abbrev upto : List Column
  upto = take (j + rest_zeros - k) (drop k cs)

  abbrev pub before : List Entry
  before = entries power_on (opened k) upto

  abbrev pub after_rest : List Entry
  after_rest = entries rest (opened (j + rest_zeros)) (drop (j + rest_zeros) cs)

  fits : j + rest_zeros ≤ length cs
  fits = omega (arith, rw (length-drop, masters_length) at (zeros_length _ _ zeros))

  length_upto : k + length upto ≡ j + rest_zeros
  length_upto = omega (arith, fits, length-take-le (j + rest_zeros - k) (drop k cs) (omega (arith, fits, length-drop k cs)))

  rested : after power_on upto ≡ rest
  rested =
      let parts : j + rest_zeros - k ≡ j - k + rest_zeros = omega arith in
      let there : k + (j - k) ≡ j = omega arith in
      rw (parts, take-add (j - k) rest_zeros (drop k cs), after_append)
      (rests rest_zeros _ (drop (j - k) (drop k cs)) (fourteen begun _) (rw (drop-drop, there, masters_drop) zeros))

  there : place_after power_on (opened k) upto ≡ opened (j + rest_zeros)
  there =
      open_after power_on (opened k) upto (λ e. refl) (ap framed rested)
      ∙ ap opened (columns_on power_on (opened k) upto ∙ length_upto)

  pub cut_at_rest : entries_from k cs ≡ before ++ after_rest
  unfolding entries_from
  cut_at_rest =
      let on : k + (j + rest_zeros - k) ≡ j + rest_zeros = omega arith in
      rw (take-append-drop, rested, there, drop-drop, on) at (entries_append power_on (opened k) upto (drop (j + rest_zeros - k) (drop k cs)))

  pub all_before : Every (Within k (j + rest_zeros)) before
  all_before = within power_on (opened k) upto k (j + rest_zeros) (le_refl k) (omega (arith, length_upto))

  -- With their banks: those of the entries at rest by what was shown before.
  abbrev pub shown : List ℕ
  shown = learnt_all unknown before

  pub list_at_rest : list_from k cs ≡ banked unknown before ++ banked shown after_rest
  unfolding list_from
  list_at_rest = rw cut_at_rest (banked_append unknown before after_rest)

  -- So the entries from the end of the zeros on are those of the reader at rest ..
  pub from_fourteen : from_column (j + rest_zeros) (list_from k cs) ≡ banked shown after_rest
  from_fourteen =
      rw list_at_rest
      (from_none k (j + rest_zeros) (banked unknown before) (banked shown after_rest) (every_banked _ unknown before all_before)
      ∙ from_all (j + rest_zeros) _ (banked shown after_rest) (every_banked _ shown after_rest
      (within rest (opened (j + rest_zeros)) (drop (j + rest_zeros) cs) (j + rest_zeros) _ (le_refl _) (le_refl _))))

  -- .. which agree with those of a reader that has shown nothing before.
  pub agrees_at_rest : Agrees (banked unknown after_rest) (banked shown after_rest)
  agrees_at_rest =
      agrees (λ id. false) unknown shown after_rest (sym (length_learnt_all unknown before)) (λ id t. absurd (false≢true t))

-- Where ms is what a row holds from column n on, fourteen zeros of ms are the row's from there on.
module _ (row ms : List Bool) (n k : ℕ) (e : drop n row ≡ ms) (h : k ≤ n) where
  later : (i : ℕ) → drop (n + i) row ≡ drop i ms
  later i = sym (drop-drop i n row) ∙ ap (λ (l : List Bool). drop i l) e

  pub none_later : NoFourteen row k → NoFourteen ms 0
  none_later f i _ r = f (n + i) (omega arith) (rw (later i) r)

  first_later : (j : ℕ) → n ≤ j → FirstFourteen row k j → FirstFourteen ms 0 (j - n)
  first_later j l f =
      let on : n + (j - n) ≡ j = omega arith in
      record {
        fourteen = rw (← later (j - n), on) f.fourteen;
        wholly = omega arith;
        first = λ i _ u r. f.first (n + i) (omega arith) (omega arith) (rw (later i) r);
      }

-- In a row of z zeros, a 1 and then ms any fourteen zeros in a row lie behind the 1.
behind : (z j n : ℕ) (ms : List Bool) → z < j + n → Zeros n (drop j (replicate z false ++ true ∷ ms)) → z < j
unfolding Zeros
behind z zero zero ms h zs = absurd (omega arith)
behind zero zero (suc n) ms h zs = absurd zs
behind (suc z) zero (suc n) ms h zs = absurd (omega (arith, behind z zero n ms (omega arith) zs))
behind zero (suc j) n ms h zs = omega arith
behind (suc z) (suc j) n ms h zs = omega (arith, behind z j n ms (omega arith) zs)

drop_behind : (z : ℕ) (ms : List Bool) → drop (suc z) (replicate z false ++ true ∷ ms) ≡ ms
drop_behind zero ms = refl
drop_behind (suc z) ms = drop_behind z ms

-- A zero more before a row; fourteen are what is looked for.
one_more_zero : (z : ℕ) (ms : List Bool) → replicate z false ++ false ∷ ms ≡ replicate (z + 1) false ++ ms
one_more_zero zero ms = refl
one_more_zero (suc z) ms = rw suc-add (ap (λ (l : List Bool). false ∷ l) (one_more_zero z ms))

zeros_first : (n : ℕ) (ms : List Bool) → Zeros n (replicate n false ++ ms)
unfolding Zeros
zeros_first zero ms = tt
zeros_first (suc n) ms = zeros_first n ms

fourteenth : (z : ℕ) (ms : List Bool) → z + 1 ≡ rest_zeros → FourteenAt (replicate z false ++ false ∷ ms) 0
fourteenth z ms h = rw (one_more_zero z ms, h) (zeros_first rest_zeros ms)

-- A reader that waits and has just seen z zeros, as if they stood before its columns: silent up to the end of the first fourteen zeros ..
wakes : (cs : List Column) (z j e : ℕ) (p : Place) (q : ℕ) → z < rest_zeros → z + e ≡ j + rest_zeros → p.column + e ≡ q
    → FirstFourteen (replicate z false ++ masters cs) 0 j → entries (power z) p cs ≡ entries rest (opened q) (drop e cs)
unfolding entries step judge timer
wakes cs z j zero p q h k l f = absurd (omega arith)
wakes [] z j (suc e) p q h k l f = refl
wakes (col true x ∷ cs) z j (suc e) p q h k l f =
    let b : z < j = behind z j rest_zeros (masters cs) (omega arith) f.fourteen in
    wakes cs 0 (j - suc z) e (opened (suc p.column)) q (omega arith) (omega arith) (omega arith)
    (first_later _ (masters cs) (suc z) 0 (drop_behind z (masters cs)) (omega arith) j b f)
wakes (col false x ∷ cs) z j (suc e) p q h k l f =
    let next : Place = opened (suc p.column) in
    tested (ltb (z + 1) rest_zeros)
    (λ t. rw t (wakes cs (z + 1) j e next q (ltb-true _ _ t) (omega arith) (omega arith) (rw (one_more_zero z (masters cs)) at f)))
    (λ t. let n : z + 1 ≡ rest_zeros = omega (arith, ltb-false) in
    let first : 0 < j → ⊥ = λ b. f.first 0 (omega arith) b (fourteenth z (masters cs) n) in
    let start : e ≡ 0 = omega arith in
    rw (t, start) (ap (λ (c : ℕ). entries rest (opened c) cs) (omega arith)))

-- .. and for ever where there is none.
pub sleeps : (cs : List Column) (z : ℕ) (p : Place) → z < rest_zeros → NoFourteen (replicate z false ++ masters cs) 0 → entries (power z) p cs ≡ []
unfolding entries step judge timer
sleeps [] z p h f = refl
sleeps (col true x ∷ cs) z p h f =
    sleeps cs 0 (opened (suc p.column)) (omega arith)
    (none_later _ (masters cs) (suc z) 0 (drop_behind z (masters cs)) (omega arith) f)
sleeps (col false x ∷ cs) z p h f =
    tested (ltb (z + 1) rest_zeros)
    (λ q. rw q (sleeps cs (z + 1) (opened (suc p.column)) (ltb-true _ _ q) (rw (one_more_zero z (masters cs)) at f)))
    (λ q. let n : z + 1 ≡ rest_zeros = omega (arith, ltb-false) in absurd (f 0 (omega arith) (fourteenth z (masters cs) n)))

-- A reader let in at k lists what a reader at rest lists from the end of the first fourteen zeros on.
pub from_first : (cs : List Column) (k j : ℕ) → FirstFourteen (masters cs) k j
    → entries_from k cs ≡ entries rest (opened (j + rest_zeros)) (drop (j + rest_zeros) cs)
unfolding entries_from
from_first cs k j f =
    let on : k + (j - k + rest_zeros) ≡ j + rest_zeros = omega arith in
    rw (drop-drop, on)
    at (wakes (drop k cs) 0 (j - k) (j - k + rest_zeros) (opened k) (j + rest_zeros) (omega arith) (omega arith) on
    (first_later (masters cs) _ k k (sym (masters_drop k cs)) (omega arith) j f.wholly f))
