-- Open at the frame: a reader let in fourteen columns before the start of an entry lists that entry too, and all that follow it, but for
-- the bank. Assumes nothing.
use mathlib.Core.Path.{◌≡◌}
use mathlib.Core.List.{List, [], ◌∷◌, ◌++◌}
use mathlib.Core.Option.{some, some-injective}
use Prim.Native.Nat.{ℕ, zero, suc, ◌+◌, ◌-◌, ◌≤◌}
use native.Mathlib.Nat.{le_refl}
use native.Mathlib.Omega.{arith}
use lib.ListN.{length, drop, get_elem?}
use lib.Seq.{drop-append_seam}
use Rattle.protocol.specs.Limits.{rest_zeros}
use Rattle.protocol.specs.Entries.{Entry}
use Rattle.protocol.specs.Banks.{unknown, banked}
use Rattle.protocol.specs.Reader.{Column, entries_from, list_from}
use Rattle.protocol.specs.Late.{FourteenAt, Started, OpenedAt}
use Rattle.laws.proofs.Every.{Every}
use Rattle.laws.proofs.Places.{every_at}
use Rattle.protocol.proofs.Banks.{length_banked}
use Rattle.protocol.proofs.Late.{masters, Within, before, after_rest, shown, all_before, cut_at_rest, list_at_rest, agrees_at_rest, from_first}
use Rattle.protocol.proofs.Start.{starts}

-- An entry from column j on is none of those before it.
not_before : (k j i : ℕ) (es fs : List Entry) (e : Entry) → Every (Within k j) es → get_elem? (es ++ fs) i ≡ some e
    → j ≤ e.place.column → length es ≤ i
not_before k j i [] fs e q f h = omega arith
not_before k j zero (d ∷ es) fs e q f h =
    let same : d ≡ e = some-injective d e f in absurd (omega (arith, rw same at q.0))
not_before k j (suc i) (d ∷ es) fs e q f h = omega (arith, not_before k j i es fs e q.1 f h)

-- Let in fourteen columns before the start of an entry, a reader lists that entry too.
pub opened_at : (cs : List Column) (k i : ℕ) (e : Entry) → get_elem? (entries_from k cs) i ≡ some e → OpenedAt cs k i e.place.start
unfolding list_from
opened_at cs k i e f =
    let s : ℕ = e.place.start in
    let j : ℕ = s - rest_zeros in
    let started : Started (masters cs) k e.place = every_at _ (entries_from k cs) i e (starts cs k) f in
    let late : k ≤ j = omega (arith, started.wholly) in
    let zeros : FourteenAt (masters cs) j = started.fourteen in
    let front : List Entry = before cs k j late zeros in
    let back : List Entry = after_rest cs k j late zeros in
    let own : entries_from j cs ≡ back
    = from_first cs j j (record { fourteen = zeros; wholly = le_refl j; first = λ i l u. absurd (omega arith) }) in
    let behind : drop (length front) (list_from k cs) ≡ banked (shown cs k j late zeros) back
    = rw (list_at_rest cs k j late zeros, ← length_banked unknown front) (drop-append_seam (banked unknown front) _) in
    record {
      skipped = length front;
      not_it =
          not_before k (j + rest_zeros) i front back e (all_before cs k j late zeros) (rw (cut_at_rest cs k j late zeros) at f)
          (omega (arith, started.wholly, started.earlier));
      the_same = rw (own, behind) (agrees_at_rest cs k j late zeros);
    }
