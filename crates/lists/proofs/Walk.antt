-- A list's bytes piece by piece: the first entry and what is behind it, and the chunks that the code tests. Assumes nothing.
use mathlib.Core.Path.{◌≡◌, refl, sym, ap, ◌∙◌, fun_ext}
use mathlib.Core.Bool.{Bool, true, false, and-false, false≢true, ◌&&◌}
use mathlib.Core.List.{List, [], ◌∷◌, ◌++◌}
use mathlib.Core.Option.{Option, none, some}
use Prim.Native.Nat.{ℕ, zero, suc, ◌+◌, ◌-◌, ◌≤◌, ◌<◌}
use native.Mathlib.Omega.{arith}
use lib.ListN.{length, length-append, take, drop, get_or}
use lib.Seq.{take_at, drop_at}
use Rattle.std.specs.Bool.{MatchBool}
use Rattle.std.specs.List.{AllWithin, HoldsAt}
use Rattle.std.specs.Slice.Iter.{chunks_exact_rest, chunks_exact_size, chunks_exact_steps}
use Rattle.std.proofs.lemmas.Iterator.Splits.{YieldsList-from_shown_while}
use Rattle.std.proofs.lemmas.Iterator.{YieldsList}
use Rattle.protocol.specs.Entries.{Kind, number, kinds, numbered}
use Rattle.protocol.specs.Banks.{Banked}
use Rattle.protocol.specs.Pieces.{number_at, pieces, is_whole}
use Rattle.protocol.specs.Layout.{Field, kind, column, start, id, address, bank, value, current, entry_bytes, field_at, entry_by, entry_at, and_more, is_entry, all_entries, entries_in, is_list}
use Rattle.laws.proofs.Every.{both}
use Rattle.protocol.proofs.Pieces.{number_part, pieces_more, pieces_none}
use Rattle.protocol.proofs.Codec.{numbered_own, entries_more, entries_none, list_more}
use Rattle.kinds.specs.Kinds.{is_one, is_kind, kind_of, kind_by}
use Rattle.kinds.specs.declared.Kind as Code
use Rattle.lists.specs.Fields.{fields_by, fields_at}
use Rattle.lists.specs.declared.Fields.{Fields}
use Rattle.lists.specs.Entries.{entry_of}

-- A list that begins with a piece.
piece_before : (n : ℕ) (l x rest : List ℕ) → 0 < n → l ≡ x ++ rest → length x ≡ n → pieces n l ≡ x ∷ pieces n rest
piece_before n l x rest h e q =
    let more : n ≤ length l = omega (arith, ap length e, length-append x rest) in
    pieces_more n l h more ∙ rw (e, take_at x rest n q, drop_at x rest n q)

-- The chunks of exactly n elements are the pieces of that width.
pub chunks_yield : (n : ℕ) → 0 < n → {s : _} (xs : List ℕ) → chunks_exact_rest s ≡ xs → chunks_exact_size s ≡ n
    → YieldsList (chunks_exact_steps {A = ℕ}) (λ y. y.now) s (pieces n xs)
chunks_yield n h {s} xs r q =
    rw (← r)
    (YieldsList-from_shown_while chunks_exact_steps (λ y. y.now) (λ t. pieces n (chunks_exact_rest t)) (λ t. chunks_exact_size t ≡ n)
    (λ t u p k. ap length (pieces_none n (chunks_exact_rest t) (omega (arith, k.1.0))))
    (λ t x u p k. (k.0 ∙ p, piece_before n (chunks_exact_rest t) x.now (chunks_exact_rest u) h k.1.0 (k.1.1 ∙ p)))
    s q)

-- A piece is an entry where its first byte is a kind.
is_by : (o : Option Kind) (v : Field → ℕ) → is_entry (entry_by o v) ≡ is_one o
is_by none v = refl
is_by (some k) v = refl

by_kind : (p : List ℕ) → is_entry (entry_at current p 0) ≡ is_kind (get_or p 0 0)
unfolding is_kind number_at
by_kind p = is_by (numbered (field_at current p 0 Field.kind) kinds) (field_at current p 0)

-- So whether the first byte of every piece is a kind says whether the pieces are entries.
all_kinds : (ps : List (List ℕ)) → AllWithin (λ p. is_kind (get_or p 0 0) ≡ true) ps 0 (length ps) → all_entries current ps ≡ true
unfolding all_entries
all_kinds [] h = refl
all_kinds (p ∷ ps) h =
    rw (by_kind p, h 0 [] (omega arith) (omega arith)) (all_kinds ps (λ k d low high. h (suc k) d (omega arith) (omega arith)))

other_kind : (ps : List (List ℕ)) (k : ℕ) → k < length ps → HoldsAt (λ p. is_kind (get_or p 0 0) ≡ false) ps k
    → all_entries current ps ≡ false
unfolding all_entries
other_kind [] k l h = absurd (omega arith)
other_kind (p ∷ ps) zero l h = rw (by_kind p, h []) refl
other_kind (p ∷ ps) (suc k) l h = rw (other_kind ps k (omega arith) h) (and-false (is_entry (entry_at current p 0)))

pub kinds_decide : (r : Bool) (ps : List (List ℕ))
    → MatchBool r (AllWithin (λ p. is_kind (get_or p 0 0) ≡ true) ps 0 (length ps))
    ((k : ℕ) × (k < length ps) × HoldsAt (λ p. is_kind (get_or p 0 0) ≡ false) ps k) → r ≡ all_entries current ps
kinds_decide true ps h = sym (all_kinds ps h)
kinds_decide false ps h = sym (other_kind ps h.0 h.1 h.2)

-- Bytes of length 0 are a list, of no entries.
pub empty_list : (list : List ℕ) → length list ≡ 0 → is_list current list ≡ true
unfolding is_list is_whole all_entries
empty_list [] h = ap (all_entries current) (pieces_none 9 [] (omega arith))
empty_list (x ∷ list) h = absurd (omega arith)

-- What the bytes from a place on have in their fields is what stands there.
module _ (l : List ℕ) (i n : ℕ) (h : entry_bytes current ≤ n) where
  part_field : (f : Field) → field_at current (take n (drop i l)) 0 f ≡ field_at current l i f
  part_field kind = number_part _ _ n i l (omega arith)
  part_field column = number_part _ _ n i l (omega arith)
  part_field start = number_part _ _ n i l (omega arith)
  part_field id = number_part _ _ n i l (omega arith)
  part_field address = number_part _ _ n i l (omega arith)
  part_field bank = number_part _ _ n i l (omega arith)
  part_field value = number_part _ _ n i l (omega arith)

  pub part_fields : field_at current (take n (drop i l)) 0 ≡ field_at current l i
  part_fields = fun_ext part_field

-- Bytes cut behind as many as an entry has.
module _ (l e rest : List ℕ) (long : entry_bytes current ≤ length l) (front : e ≡ take (entry_bytes current) l)
    (back : rest ≡ drop (entry_bytes current) l) where
  same_fields : field_at current l 0 ≡ field_at current e 0
  same_fields = rw front (sym (part_fields l 0 (entry_bytes current) (omega arith)))

  same_kind : get_or l 0 0 ≡ get_or e 0 0
  unfolding number_at
  same_kind = ap (λ (v : Field → ℕ). v kind) same_fields

  -- Of a list the first is an entry, and what is behind it is a list ..
  module _ (h : is_list current l ≡ true) where
    parts : (is_kind (get_or e 0 0) ≡ true) × (is_list current rest ≡ true)
    parts = both _ _ (rw (← same_kind, ← by_kind l, back) (sym (list_more current l 0 (omega arith)) ∙ h))

    pub kind_first : is_kind (get_or e 0 0) ≡ true
    kind_first = parts.0

    pub list_behind : is_list current rest ≡ true
    list_behind = parts.1

  -- .. and its entries are the one of that kind and those behind it.
  pub entry_here : (k : Code.Kind) → number (kind_by k) ≡ get_or e 0 0
      → entries_in current l ≡ entry_of (fields_by k (field_at current e 0)) ∷ entries_in current rest
  unfolding number_at
  entry_here k q =
      entries_more current l 0 (omega arith)
      ∙ ap (λ (v : Field → ℕ). and_more (entry_by (numbered (v kind) kinds) v) (entries_in current (drop (entry_bytes current) l))) same_fields
      ∙ rw (← q, numbered_own (kind_by k), ← back)

-- Fewer bytes are no entries.
pub entries_few : (l : List ℕ) → length l < entry_bytes current → entries_in current l ≡ []
entries_few l h = entries_none current l 0 (omega arith)

-- The entry of what stands in the fields, its kind by the number ..
abbrev pub entry_by_number : Fields ℕ → Banked
entry_by_number f =
    record {
      entry = record {
        place = record { column = f.column; start = f.start };
        event = record { kind = kind_of f.kind; id = f.id; address = f.address; value = f.value };
      };
      bank = f.bank;
    }

-- .. is of a list from a place on the first, and behind it are those from the next place on.
module _ (list : List ℕ) (i : ℕ) (h : entry_bytes current ≤ length list - i) (e : is_list current (drop i list) ≡ true) where
  parts_there : is_list current (drop i list) ≡ is_kind (fields_at list i).kind && is_list current (drop (i + entry_bytes current) list)
  unfolding fields_at is_kind
  parts_there = list_more current list i h ∙ rw (is_by (numbered (field_at current list i Field.kind) kinds) (field_at current list i))

  kind_there : is_kind (fields_at list i).kind ≡ true
  kind_there = (both (is_kind (fields_at list i).kind) (is_list current (drop (i + entry_bytes current) list)) (sym parts_there ∙ e)).0

  pub entry_there : entries_in current (drop i list)
      ≡ entry_by_number (fields_at list i) ∷ entries_in current (drop (i + entry_bytes current) list)
  unfolding fields_at is_kind
  entry_there = entries_more current list i h ∙ first (numbered (field_at current list i Field.kind) kinds) refl kind_there
    where
      first : (o : Option Kind) → numbered (field_at current list i Field.kind) kinds ≡ o → is_one o ≡ true
          → and_more (entry_by o (field_at current list i)) (entries_in current (drop (i + entry_bytes current) list))
          ≡ entry_by_number (fields_at list i) ∷ entries_in current (drop (i + entry_bytes current) list)
      first none q k = absurd (false≢true k)
      first (some k) q z = rw q
