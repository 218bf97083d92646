-- A list in its buffer: its kinds, and what it says that read made it. Assumes nothing.
use mathlib.Core.Path.{◌≡◌, refl, sym, ap, ◌∙◌}
use mathlib.Core.List.{List, [], ◌∷◌}
use mathlib.Core.Option.{none, some, none-ne-some, some-injective}
use Prim.Native.Nat.{ℕ, zero, suc, ◌+◌, ◌-◌, ◌*◌, ◌≤◌, ◌<◌}
use native.Mathlib.Omega.{arith}
use borrow.Author.Tests.{ltb-false, eqb-true, not-false}
use lib.ListN.{length, drop, get_elem?, length-map, length-drop}
use Rattle.protocol.specs.Bits.{bit_of, row_of}
use Rattle.protocol.specs.Entries.{number}
use Rattle.protocol.specs.Banks.{Banked, bare}
use Rattle.protocol.specs.Pieces.{joined}
use Rattle.protocol.specs.Layout.{Field, current, width, value_of, entry_bytes, offset, bytes_of, list_bytes, field_at, entries_in}
use Rattle.protocol.specs.Limits.{rest_zeros}
use Rattle.protocol.specs.Reader.{columns}
use Rattle.protocol.specs.Late.{FirstFourteen, NoFourteen, from_column, Agrees, Started}
use Rattle.laws.proofs.Every.{Every, looked_up}
use Rattle.laws.proofs.Places.{outside, at_drop, every_at}
use Rattle.protocol.proofs.Pieces.{number_behind}
use Rattle.protocol.proofs.Codec.{field_back, length_entry, length_list, entries_back}
use Rattle.protocol.proofs.Banks.{agrees_bare}
use Rattle.protocol.proofs.Late.{masters, masters_columns}
use Rattle.protocol.proofs.Demands as protocol
use Rattle.job.specs.Refusals.{first, lent, lent_after}
use Rattle.job.specs.Rows.{row_rules, wrong_rows}
use Rattle.std.specs.Prelude.{Result, Ok}
use Rattle.job.specs.declared.Refusal.{Refusal}
use Rattle.job.proofs.Refusals.{no, none_before, was_made, ended_none, result_first}
use Rattle.read.specs.Read.{list_of, rows_refusals, refusals, Listed}
use Rattle.read.proofs.Bytes.{Small, small_list}
use Rattle.read.proofs.Ends.{rows_good, rows_through, not_refused}
use Rattle.demands.specs.Lent.{list_in, kind_at, place_at, bare_at, Reopened}

-- What stands in a field of the entry at a place of a list.
field_there : (es : List Banked) (i : ℕ) (e : Banked) (f : Field) → get_elem? es i ≡ some e
    → field_at current (list_bytes current es) (entry_bytes current * i) f ≡ value_of e f
unfolding list_bytes joined
field_there [] i e f there = absurd (none-ne-some _ there)
field_there (d ∷ es) zero e f there = rw (← some-injective d e there) (field_back current d (list_bytes current es) f)
field_there (d ∷ es) (suc i) e f there =
    let on : entry_bytes current * suc i + offset current f ≡ length (bytes_of current d) + (entry_bytes current * i + offset current f)
    = omega (arith, length_entry current d) in
    rw (on, number_behind (width current f) (entry_bytes current * i + offset current f) (bytes_of current d) (list_bytes current es))
    (field_there es i e f there)

-- What holds of the kind's number of every entry holds of the numbers that stand in the list.
pub kind_at_lem : (Q : ℕ → Type 0) (es : List Banked) (i : ℕ) → Every (λ e. Q (number e.entry.event.kind)) es → i < length es
    → Q (kind_at (list_bytes current es) i)
unfolding kind_at
kind_at_lem Q es i holds h =
    looked_up (get_elem? es i) (λ none. absurd (omega (arith, outside es i none)))
    (λ e there. rw (field_there es i e Field.kind there) (every_at _ es i e holds there))

-- A list without its banks: as long, the same entry at a place, and the same without its first entries.
bare_long : (es : List Banked) → length (bare es) ≡ length es
bare_long es = length-map es _

bare_there : (es : List Banked) (i : ℕ) (e : Banked) → get_elem? es i ≡ some e → get_elem? (bare es) i ≡ some e.entry
bare_there [] i e there = absurd (none-ne-some _ there)
bare_there (d ∷ es) zero e there = ap (λ (b : Banked). some b.entry) (some-injective d e there)
bare_there (d ∷ es) (suc i) e there = bare_there es i e there

bare_drop : (n : ℕ) (es : List Banked) → bare (drop n es) ≡ drop n (bare es)
bare_drop zero es = refl
bare_drop (suc n) [] = refl
bare_drop (suc n) (e ∷ es) = bare_drop n es

-- What it says that read made a list.
module _ {cdm cds out after : List ℕ} {k n : ℕ} (listed : Listed cdm cds k out (Ok n) after) where
  pub list_count : n ≡ length (list_of k cdm cds)
  list_count = (was_made listed.ends).1

  list_after : after ≡ lent_after none (lent (list_bytes current (list_of k cdm cds)) out)
  list_after = cc (was_made listed.ends).2

  pub list_bytes_lem : list_in n after ≡ list_bytes current (list_of k cdm cds)
  unfolding list_in
  list_bytes_lem =
      rw (list_count, ← length_list current (list_of k cdm cds), list_after) (result_first (list_bytes current (list_of k cdm cds)) out)

  pub list_entries : entries_in current (list_in n after) ≡ list_of k cdm cds
  list_entries = ap (entries_in current) list_bytes_lem ∙ entries_back current (list_of k cdm cds)

  -- Of no entries nothing is left in the buffer.
  pub list_empty : list_of k cdm cds ≡ [] → (n ≡ 0) × (after ≡ out)
  unfolding lent_after list_bytes joined
  list_empty e = (list_count ∙ ap length e, rw e at list_after)

  -- The CDM row of its columns is the master row, so protocol's late opening is one of the master row.
  list_masters : masters (columns (row_of cdm) (row_of cds)) ≡ row_of cdm
  unfolding row_of refusals rows_refusals wrong_rows row_rules
  list_masters =
      let same = eqb-true _ _ (not-false _ (no 6 _ (was_made listed.ends).0)) in
      masters_columns (row_of cdm) (row_of cds) (length-map cdm bit_of ∙ same ∙ sym (length-map cds bit_of))

  pub list_late : {j : ℕ} → FirstFourteen (row_of cdm) k j → Agrees (list_of k cdm cds) (from_column (j + rest_zeros) (list_of 0 cdm cds))
  unfolding list_of
  list_late {j} first = protocol.late_opening _ k j (rw list_masters first)

  pub list_never : NoFourteen (row_of cdm) k → list_of k cdm cds ≡ []
  unfolding list_of
  list_never never = protocol.late_nothing _ k (rw list_masters never)

  -- What its entry i has in a field.
  pub entry_field : (i : ℕ) (e : Banked) (f : Field) → get_elem? (list_of k cdm cds) i ≡ some e
      → field_at current (list_in n after) (entry_bytes current * i) f ≡ value_of e f
  entry_field i e f there = rw list_bytes_lem (field_there (list_of k cdm cds) i e f there)

  pub entry_there : {i : ℕ} {Q : Type 0} → i < n → ((e : Banked) → get_elem? (list_of k cdm cds) i ≡ some e → Q) → Q
  entry_there {i} h go =
      looked_up (get_elem? (list_of k cdm cds) i) (λ none. absurd (omega (arith, outside (list_of k cdm cds) i none, list_count))) go

  -- Its start is the S of its frame.
  pub start_is_s : {i : ℕ} → i < n → Started (row_of cdm) k (place_at (list_in n after) i)
  unfolding place_at list_of
  start_is_s {i} h =
      entry_there h
      (λ e there.
      rw (entry_field i e Field.column there, entry_field i e Field.start there)
      (rw list_masters at (every_at _ (list_of k cdm cds) i e (protocol.start_is_s _ k) there)))

  -- Read lets the rows through from there too, and as much room is enough.
  module _ (i : ℕ) (e : Banked) (there : get_elem? (list_of k cdm cds) i ≡ some e) where
    pub rows_again : first (rows_refusals cdm cds (e.entry.place.start - rest_zeros)) ≡ none
    unfolding refusals rows_refusals
    rows_again =
        let through = none_before (rows_refusals cdm cds k) _ (was_made listed.ends).0 in
        let small : Small (length cdm) e
        = every_at _ (list_of k cdm cds) i e (small_list k cdm cds (rows_through cdm cds k through).within) there in
        let right = none_before (wrong_rows cdm cds) _ through in
        sym (rows_good cdm cds (e.entry.place.start - rest_zeros) (sym right) (omega arith))

  list_fits : length (list_bytes current (list_of k cdm cds)) ≤ length out
  unfolding refusals rows_refusals wrong_rows row_rules
  list_fits = ltb-false _ _ (no 9 _ (was_made listed.ends).0)

-- Opened at the frame of entry e, entry i of a list that read made.
module _ {cdm cds out after out' after' : List ℕ} {k n i : ℕ} {outcome : Result ℕ Refusal} (listed : Listed cdm cds k out (Ok n) after) where
  reopened_at : (e : Banked) → get_elem? (list_of k cdm cds) i ≡ some e → Listed cdm cds (e.entry.place.start - rest_zeros) out' outcome after'
      → length out ≤ length out' → Reopened n i (list_in n after) outcome after'
  unfolding list_of bare_at
  reopened_at e there again room =
      let list : List Banked = list_of k cdm cds in
      let late : List Banked = list_of (e.entry.place.start - rest_zeros) cdm cds in
      let at = protocol.open_at_frame _ k i e.entry (bare_there list i e there) in
      let from : ℕ = at.skipped in
      let same : bare late ≡ drop from (bare list) = agrees_bare _ _ _ at.the_same ∙ bare_drop from list in
      let count : length late ≡ n - from = sym (bare_long late) ∙ rw (same, length-drop, bare_long list, list_count listed) in
      let enough : length (list_bytes current late) ≤ length out'
      = omega (arith, length_list current late, length_list current list, list_fits listed, list_count listed) in
      let made : outcome ≡ Ok (n - from)
      = ended_none again.ends (not_refused cdm cds _ out' (rows_again listed i e there) enough) ∙ ap Ok count in
      let entries : entries_in current (list_in (n - from) after') ≡ late = list_entries (rw made at again) in
      let on : from + (i - from) ≡ i = omega (arith, at.not_it) in
      record {
        skipped = from;
        not_it = at.not_it;
        made = made;
        the_same = rw (entries, list_entries listed) at.the_same;
        in_it = rw (entries, list_entries listed, same, at_drop, on);
      }

  pub reopened : i < n → Listed cdm cds ((place_at (list_in n after) i).start - rest_zeros) out' outcome after' → length out ≤ length out'
      → Reopened n i (list_in n after) outcome after'
  unfolding place_at
  reopened h again room =
      entry_there listed h (λ e there. reopened_at e there (rw (entry_field listed i e Field.start there) at again) room)
