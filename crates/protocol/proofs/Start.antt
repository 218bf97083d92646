-- The start of an entry is the S of its frame, as the master row alone has it: fourteen zeros and then a 1, and no fourteen zeros from
-- there up to the entry. And there is one such column. Assumes nothing.
use mathlib.Core.Path.{◌≡◌, refl, sym, ap, ◌∙◌}
use mathlib.Core.Bool.{Bool, true, false, cond, false≢true}
use mathlib.Core.List.{List, [], ◌∷◌}
use mathlib.Core.Option.{Option, none, some, none-ne-some, some-injective}
use Prim.Native.Nat.{ℕ, zero, suc, ◌+◌, ◌-◌, ◌≤◌, ◌<◌}
use native.Mathlib.Nat.{le_refl}
use native.Mathlib.Omega.{arith}
use borrow.Author.Tests.{ltb-true, ltb-false, leb-true, leb-false}
use lib.Dec.{ltb, leb}
use lib.ListN.{length, drop, get_elem?}
use lib.Seq.{drop-drop}
use Rattle.protocol.specs.Limits.{rest_zeros}
use Rattle.protocol.specs.Rest.{Timed, power, rest, frame, timer, judge}
use Rattle.protocol.specs.Entries.{Event, Place, opened, onward}
use Rattle.protocol.specs.Reader.{Phase, look, begun, Column, col, step, entries, entries_from}
use Rattle.protocol.specs.Late.{Zeros, Started}
use Rattle.laws.proofs.Every.{Every, IfAny, tested, looked_up}
use Rattle.protocol.proofs.Machine.{silent_outside, every_note}
use Rattle.protocol.proofs.Late.{masters, masters_drop}

-- Zeros by the columns in which they stand.
zero_at : (n j i : ℕ) (row : List Bool) → Zeros n (drop j row) → j ≤ i → i < j + n → get_elem? row i ≡ some false
unfolding Zeros
zero_at zero j i row zs l u = absurd (omega arith)
zero_at (suc n) zero i [] zs l u = absurd zs
zero_at (suc n) zero i (true ∷ row) zs l u = absurd zs
zero_at (suc n) zero zero (false ∷ row) zs l u = refl
zero_at (suc n) zero (suc i) (false ∷ row) zs l u = zero_at n zero i row zs (omega arith) (omega arith)
zero_at (suc n) (suc j) i [] zs l u = absurd zs
zero_at (suc n) (suc j) zero (b ∷ row) zs l u = absurd (omega arith)
zero_at (suc n) (suc j) (suc i) (b ∷ row) zs l u = zero_at (suc n) j i row zs (omega arith) (omega arith)

zeros_by : (n j : ℕ) (row : List Bool) → ((i : ℕ) → j ≤ i → i < j + n → get_elem? row i ≡ some false) → Zeros n (drop j row)
unfolding Zeros
zeros_by zero j row h = tt
zeros_by (suc n) zero [] h = none-ne-some _ (h 0 (omega arith) (omega arith))
zeros_by (suc n) zero (true ∷ row) h = false≢true (sym (some-injective _ _ (h 0 (omega arith) (omega arith))))
zeros_by (suc n) zero (false ∷ row) h = zeros_by n zero row (λ i l u. h (suc i) (omega arith) (omega arith))
zeros_by (suc n) (suc j) [] h = none-ne-some _ (h (suc j) (omega arith) (omega arith))
zeros_by (suc n) (suc j) (b ∷ row) h = zeros_by (suc n) j row (λ i l u. h (suc i) (omega arith) (omega arith))

-- What stands in a column.
here : (c : ℕ) (row ms : List Bool) {m : Bool} → drop c row ≡ m ∷ ms → get_elem? row c ≡ some m
here zero row ms e = rw e
here (suc c) [] ms e = absurd (omega (arith, ap length e))
here (suc c) (b ∷ row) ms e = here c row ms e

-- What the timer counts after a column: none after a 1, one more after a zero, and fewer than fourteen.
timer_is : (z : ℕ) (m : Bool) {z' : ℕ} → timer z m ≡ some z' → (z' ≡ cond m 0 (z + 1)) × (z' < rest_zeros)
unfolding timer
timer_is z true {z'} e = let none : z' ≡ 0 = sym (some-injective 0 z' e) in (none, omega arith)
timer_is z false {z'} e =
    tested (ltb (z + 1) rest_zeros)
    (λ t. let more : z' ≡ z + 1 = sym (some-injective (z + 1) z' (rw t at e)) in (more, omega (arith, ltb-true (z + 1) rest_zeros t)))
    (λ t. absurd (none-ne-some _ (rw t at e)))

-- A 1 is no zero.
one_is_no_zero : {o : Option Bool} → o ≡ some true → o ≡ some false → ⊥
one_is_no_zero e f = false≢true (some-injective false true (sym f ∙ e))

-- In a row, seen from column k on.
module _ (row : List Bool) (k : ℕ) where
  -- So many zeros stand just before column c, at or after k.
  abbrev Before : (z c : ℕ) → Type 0
  Before z c = (k + z ≤ c) × ((i : ℕ) → i < c → c ≤ i + z → get_elem? row i ≡ some false)

  before_none : {c : ℕ} → k ≤ c → Before 0 c
  before_none h = (omega arith, λ i l u. absurd (omega arith))

  before_more : (z c : ℕ) → Before z c → get_elem? row c ≡ some false → Before (z + 1) (suc c)
  before_more z c h e = (
    omega arith,
    λ i l u. tested (ltb i c) (λ t. h.1 i (ltb-true i c t) (omega arith)) (λ t. let last : i ≡ c = omega (arith, ltb-false i c t) in rw last e),
  )

  -- The timer counts them: after a column, those that it counts, or fourteen.
  abbrev Counted : Option ℕ → ℕ → Type 0
  Counted none c = Before rest_zeros c
  Counted (some z) c = Before z c

  counted : (z c : ℕ) (m : Bool) → get_elem? row c ≡ some m → Before z c → Counted (timer z m) (suc c)
  unfolding timer
  counted z c true e h = before_none (omega arith)
  counted z c false e h =
      let more = before_more z c h e in
      tested (ltb (z + 1) rest_zeros) (λ t. rw t more)
      (λ t. let enough : rest_zeros ≤ z + 1 = ltb-false _ _ t in rw t (omega arith, λ i l u. more.1 i l (omega arith)))

  -- .. and in a frame a 1 stands before them, S or one behind it.
  abbrev LastOne : (start z c : ℕ) → Type 0
  LastOne start z c = (start + z < c) × (get_elem? row (c - suc z) ≡ some true)

  one_on : (start z c : ℕ) (m : Bool) {z' : ℕ} → get_elem? row c ≡ some m → timer z m ≡ some z' → LastOne start z c
      → LastOne start z' (suc c)
  one_on start z c true {z'} e t h =
      let at : suc c - suc z' ≡ c = omega (arith, timer_is z true t) in (omega (arith, timer_is z true t), rw at e)
  one_on start z c false {z'} e t h =
      let at : suc c - suc z' ≡ c - suc z = omega (arith, timer_is z false t) in (omega (arith, timer_is z false t), rw at h.1)

  -- So no fourteen zeros are complete, and the frame lasts one column more.
  lasts : {p : Place} {z : ℕ} → Started row k p → z < rest_zeros → LastOne p.start z (suc p.column)
      → Started row k (record { column = suc p.column; start = p.start })
  lasts {p} {z} s low last =
      record {
        fourteen = s.fourteen;
        wholly = s.wholly;
        one = s.one;
        earlier = omega (arith, s.earlier);
        lasting = λ j l u zs.
            tested (leb (j + rest_zeros) p.column) (λ t. s.lasting j l (leb-true _ _ t) zs)
            (λ t.
            let end : p.column < j + rest_zeros = leb-false (j + rest_zeros) p.column t in
            one_is_no_zero last.1 (zero_at rest_zeros j (suc p.column - suc z) row zs (omega arith) (omega arith)));
      }

  -- What a state says of the row before its place.
  abbrev Seen : Timed Phase → Place → Type 0
  Seen (power z) p = Before z p.column
  Seen rest p = Before rest_zeros p.column × (p ≡ opened p.column)
  Seen (frame z q) p = Before z p.column × Started row k p × LastOne p.start z p.column

  seen_on : (s : Timed Phase) (p : Place) (m x : Bool) → get_elem? row p.column ≡ some m → Seen s p
      → Seen (step s m x).state (onward (step s m x).state p)
  unfolding step judge
  seen_on (power z) p m x e h =
      looked_up (timer z m) (λ t. rw t (rw t at (counted z p.column m e h), refl))
      (λ z' t. rw t (rw t at (counted z p.column m e h)))
  seen_on rest p false x e h = ((omega arith, λ i l u. (before_more rest_zeros p.column h.0 e).1 i l (omega arith)), refl)
  seen_on rest p true x e h =
      let at : suc p.column - suc 0 ≡ p.column = omega arith in
      rw h.1 (
        before_none (omega arith),
        record {
          fourteen = zeros_by rest_zeros (p.column - rest_zeros) row (λ i l u. h.0.1 i (omega arith) (omega arith));
          wholly = h.0.0;
          one = e;
          earlier = omega arith;
          lasting = λ j l u zs. absurd (omega arith);
        },
        (omega arith, rw at e),
      )
  seen_on (frame z q) p m x e h =
      looked_up (timer z m) (λ t. rw t (rw t at (counted z p.column m e h.0), refl))
      (λ z' t.
      let last : LastOne p.start z' (suc p.column) = one_on p.start z p.column m e t h.2 in
      rw t (rw t at (counted z p.column m e h.0), lasts h.1 (timer_is z m t).1 last, last))

  -- Only a frame's columns show anything.
  shown : (s : Timed Phase) (p : Place) (m x : Bool) → Seen s p → IfAny (λ e. Started row k p) (step s m x).says
  unfolding step
  shown (power z) p m x h = rw (silent_outside begun none _ (λ q. look q m x) (power z) m refl) tt
  shown rest p m x h = rw (silent_outside begun none _ (λ q. look q m x) rest m refl) tt
  shown (frame z q) p m x h = any (step (frame z q) m x).says
    where
      any : (o : Option Event) → IfAny (λ e. Started row k p) o
      any none = tt
      any (some e) = h.1

  begun_entries : (s : Timed Phase) (p : Place) (cs : List Column) → drop p.column row ≡ masters cs → Seen s p
      → Every (λ e. Started row k e.place) (entries s p cs)
  unfolding entries
  begun_entries s p [] e h = tt
  begun_entries s p (col m x ∷ cs) e h =
      every_note (λ e. Started row k e.place) p (step s m x).says _ (shown s p m x h)
      (begun_entries (step s m x).state (onward (step s m x).state p) cs (next p.column e)
      (seen_on s p m x (here p.column row _ e) h))
    where
      next : (c : ℕ) → drop c row ≡ m ∷ masters cs → drop (suc c) row ≡ masters cs
      next c e = let on : c + 1 ≡ suc c = omega arith in rw (drop-drop, on) at (ap (λ (l : List Bool). drop 1 l) e)

-- Every start that a reader let in at k lists is the S of its frame.
pub starts : (cs : List Column) (k : ℕ) → Every (λ e. Started (masters cs) k e.place) (entries_from k cs)
unfolding entries_from
starts cs k =
    begun_entries (masters cs) k (power 0) (opened k) (drop k cs) (sym (masters_drop k cs)) (before_none (masters cs) k (le_refl k))

-- So a column of the row has one start.
module _ (row : List Bool) {j k : ℕ} (p q : Place) (s : Started row j p) (t : Started row k q) where
  not_before : p.column ≡ q.column → p.start < q.start → ⊥
  not_before same h =
      let from : ℕ = q.start - rest_zeros in
      let up : from + rest_zeros ≡ q.start = omega (arith, t.wholly) in
      tested (ltb p.start from) (λ l. s.lasting from (ltb-true _ _ l) (omega (arith, t.earlier)) t.fourteen)
      (λ l.
      one_is_no_zero s.one (zero_at rest_zeros from p.start row t.fourteen (omega (arith, ltb-false p.start from l)) (omega arith)))

pub one_start : (row : List Bool) {j k : ℕ} (p q : Place) → Started row j p → Started row k q → p.column ≡ q.column → p.start ≡ q.start
one_start row p q s t same =
    tested (ltb p.start q.start) (λ l. absurd (not_before row p q s t same (ltb-true _ _ l)))
    (λ l. tested (ltb q.start p.start) (λ r. absurd (not_before row q p t s (sym same) (ltb-true _ _ r)))
    (λ r. omega (arith, ltb-false p.start q.start l, ltb-false q.start p.start r)))
