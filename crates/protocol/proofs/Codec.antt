-- An entry's bytes are the entry: read back, they give it again; a list's bytes are a list, and give its entries again. And what code
-- that walks a list's bytes goes by: the entry at a place, and what is behind it. For every layout. Assumes nothing.
use mathlib.Core.Path.{◌≡◌, refl, sym, ap, ◌∙◌, fun_ext}
use mathlib.Core.Bool.{Bool, true, false, ◌&&◌}
use mathlib.Core.List.{List, [], ◌∷◌, ◌++◌, map, append_assoc}
use mathlib.Core.Option.{some}
use Prim.Native.Nat.{ℕ, zero, suc, ◌+◌, ◌-◌, ◌*◌, ◌≤◌, ◌<◌}
use native.Mathlib.Nat.{zero-add, mul-zero, mul-suc, not-suc-le-zero}
use native.Mathlib.Omega.{arith}
use borrow.Author.Tests.{ltb-true, leb-true}
use lib.Dec.{ltb, leb, eqb}
use lib.ListN.{length, take, drop, get_or, replicate, length-append, length-drop, get_or-map, get_or-replicate}
use lib.Seq.{drop-drop, drop-append_seam}
use Rattle.protocol.specs.Entries.{Kind, lock, lockodd, badhead, command, pair, absent, refused, odd, mute, read, written, readbad, writebad, echo, end, closed, executed, withheld, ackodd, forced, number, kinds, numbered}
use Rattle.protocol.specs.Banks.{Banked}
use Rattle.protocol.specs.Pieces.{in_bytes, number_at, is_whole, joined}
use Rattle.protocol.specs.Layout.{Field, kind, column, start, id, address, bank, value, fields, order, Layout, narrow, width, widths, value_of, entry_by, entry_bytes, offset, field_bytes, bytes_of, list_bytes, field_at, entry_at, and_more, entries_of, entries_in, is_entry, all_entries, is_list}
use Rattle.protocol.proofs.Pieces.{bytes_length, number_behind, number_back, number_part, pieces_more, pieces_none, whole_more, whole_few}

-- The table has each number once.
pub numbered_own : (k : Kind) → numbered (number k) kinds ≡ some k
unfolding numbered
numbered_own lock = refl
numbered_own lockodd = refl
numbered_own badhead = refl
numbered_own command = refl
numbered_own pair = refl
numbered_own absent = refl
numbered_own refused = refl
numbered_own odd = refl
numbered_own mute = refl
numbered_own read = refl
numbered_own written = refl
numbered_own readbad = refl
numbered_own writebad = refl
numbered_own echo = refl
numbered_own end = refl
numbered_own closed = refl
numbered_own executed = refl
numbered_own withheld = refl
numbered_own ackodd = refl
numbered_own forced = refl

-- A field's place in the layout is its own, and so a test that every field passes holds of each.
own : (f : Field) → get_or fields (order f) kind ≡ f
own kind = refl
own column = refl
own start = refl
own id = refl
own address = refl
own bank = refl
own value = refl

low : (f : Field) → ltb (order f) (length fields) ≡ true
low kind = refl
low column = refl
low start = refl
low id = refl
low address = refl
low bank = refl
low value = refl

every_field : (q : Field → Bool) → map q fields ≡ replicate (length fields) true → (f : Field) → q f ≡ true
every_field q h f =
    ap q (sym (own f)) ∙ sym (get_or-map q fields (order f) kind)
    ∙ ap (λ (l : List Bool). get_or l (order f) (q kind)) h
    ∙ get_or-replicate (length fields) (order f) true (q kind) (ltb-true _ _ (low f))

-- No field is without bytes, and all stand within the entry's.
wide : (l : Layout) (f : Field) → 0 < width l f
wide narrow f = ltb-true _ _ (every_field (λ g. ltb 0 (width narrow g)) refl f)

inside : (l : Layout) (f : Field) → offset l f + width l f ≤ entry_bytes l
inside narrow f = leb-true _ _ (every_field (λ g. leb (offset narrow g + width narrow g) (entry_bytes narrow)) refl f)

some_bytes : (l : Layout) → 0 < entry_bytes l
some_bytes l = omega (arith, wide l kind, inside l kind)

module _ (l : Layout) where
  -- What stands in the n-th field, before whatever.
  nth_back : (n : ℕ) (fs : List Field) (v : Field → ℕ) (rest : List ℕ) → n < length fs
      → number_at (width l (get_or fs n kind)) (widths l (take n fs)) (field_bytes l fs v ++ rest) ≡ v (get_or fs n kind)
  unfolding field_bytes
  nth_back n [] v rest h = absurd (not-suc-le-zero h)
  nth_back zero (f ∷ fs) v rest h =
      rw append_assoc (number_back (width l f) (v f) (field_bytes l fs v ++ rest) (wide l f))
  nth_back (suc n) (f ∷ fs) v rest h =
      let front : List ℕ = in_bytes (width l f) (v f) in
      let g : Field = get_or fs n kind in
      let behind : List ℕ = field_bytes l fs v ++ rest in
      rw append_assoc
      (ap (λ (k : ℕ). number_at (width l g) (k + widths l (take n fs)) (front ++ behind)) (sym (bytes_length (width l f) (v f)))
      ∙ number_behind (width l g) (widths l (take n fs)) front behind
      ∙ nth_back n fs v rest (omega arith))

  pub field_back : (e : Banked) (rest : List ℕ) (f : Field) → field_at l (bytes_of l e ++ rest) 0 f ≡ value_of e f
  unfolding bytes_of
  field_back e rest f = rw zero-add (rw (own f) at (nth_back (order f) fields (value_of e) rest (ltb-true _ _ (low f))))

  pub read_back : (e : Banked) (rest : List ℕ) → entry_at l (bytes_of l e ++ rest) 0 ≡ some e
  read_back e rest =
      ap (λ (v : Field → ℕ). entry_by (numbered (v kind) kinds) v) (fun_ext (field_back e rest)) ∙ rw (numbered_own e.entry.event.kind)

  -- So many bytes have an entry and a list.
  length_fields : (fs : List Field) (v : Field → ℕ) → length (field_bytes l fs v) ≡ widths l fs
  unfolding field_bytes
  length_fields [] v = refl
  length_fields (f ∷ fs) v = rw (length-append, bytes_length, length_fields fs v)

  pub length_entry : (e : Banked) → length (bytes_of l e) ≡ entry_bytes l
  unfolding bytes_of
  length_entry e = length_fields fields (value_of e)

  pub length_list : (es : List Banked) → length (list_bytes l es) ≡ entry_bytes l * length es
  unfolding list_bytes joined
  length_list [] = rw mul-zero
  length_list (e ∷ es) = rw (length-append, length_entry e, length_list es, mul-suc) (omega arith)

  -- A list's bytes from place i on: the entry there and what is behind it, where they are as many as an entry's ..
  module _ (list : List ℕ) (i : ℕ) where
    field_here : (f : Field) → field_at l (take (entry_bytes l) (drop i list)) 0 f ≡ field_at l list i f
    field_here f = rw zero-add (number_part (width l f) (offset l f) (entry_bytes l) i list (inside l f))

    here : entry_at l (take (entry_bytes l) (drop i list)) 0 ≡ entry_at l list i
    here = ap (λ (v : Field → ℕ). entry_by (numbered (v kind) kinds) v) (fun_ext field_here)

    module _ (h : entry_bytes l ≤ length list - i) where
      more : entry_bytes l ≤ length (drop i list)
      more = rw length-drop h

      pub entries_more : entries_in l (drop i list) ≡ and_more (entry_at l list i) (entries_in l (drop (i + entry_bytes l) list))
      unfolding entries_in entries_of
      entries_more = rw (pieces_more (entry_bytes l) (drop i list) (some_bytes l) more, here, drop-drop)

      pub list_more : is_list l (drop i list) ≡ is_entry (entry_at l list i) && is_list l (drop (i + entry_bytes l) list)
      unfolding is_list all_entries
      list_more =
          rw (pieces_more (entry_bytes l) (drop i list) (some_bytes l) more, here, whole_more (entry_bytes l) (drop i list) more, drop-drop)
          (swap (is_whole (entry_bytes l) (drop (i + entry_bytes l) list)) (is_entry (entry_at l list i)) _)
        where
          swap : (a b c : Bool) → a && (b && c) ≡ b && (a && c)
          swap true true c = refl
          swap true false c = refl
          swap false true c = refl
          swap false false c = refl

    -- .. and nothing where they are fewer: a list only if there are none.
    module _ (h : length list - i < entry_bytes l) where
      few : length (drop i list) < entry_bytes l
      few = rw length-drop h

      pub entries_none : entries_in l (drop i list) ≡ []
      unfolding entries_in entries_of
      entries_none = rw (pieces_none (entry_bytes l) (drop i list) few)

      pub list_none : is_list l (drop i list) ≡ eqb (length list - i) 0
      unfolding is_list all_entries
      list_none = rw (pieces_none (entry_bytes l) (drop i list) few, whole_few (entry_bytes l) (drop i list) few, length-drop) (last _)
        where
          last : (b : Bool) → b && true ≡ b
          last true = refl
          last false = refl

  -- A list's bytes give its entries again, and are a list.
  module _ (e : Banked) (es : List Banked) where
    long : entry_bytes l ≤ length (bytes_of l e ++ list_bytes l es) - 0
    long = omega (arith, length-append (bytes_of l e) (list_bytes l es), length_entry e)

    behind : drop (0 + entry_bytes l) (bytes_of l e ++ list_bytes l es) ≡ list_bytes l es
    behind = rw (zero-add, ← length_entry e) (drop-append_seam (bytes_of l e) (list_bytes l es))

  pub entries_back : (es : List Banked) → entries_in l (list_bytes l es) ≡ es
  unfolding list_bytes joined
  entries_back [] = entries_none [] 0 (some_bytes l)
  entries_back (e ∷ es) =
      rw (entries_more (bytes_of l e ++ list_bytes l es) 0 (long e es), read_back e (list_bytes l es), behind e es)
      (ap (λ (k : List Banked). e ∷ k) (entries_back es))

  pub bytes_list : (es : List Banked) → is_list l (list_bytes l es) ≡ true
  unfolding list_bytes joined
  bytes_list [] = list_none [] 0 (some_bytes l)
  bytes_list (e ∷ es) =
      rw (list_more (bytes_of l e ++ list_bytes l es) 0 (long e es), read_back e (list_bytes l es), behind e es) (bytes_list es)
