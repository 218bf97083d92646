-- `rows_text::text_to_rows` meets its contract: no fault, room for the columns, and then their digits. Assumes nothing.
use mathlib.Core.Path.{◌≡◌, sym, ap, ◌∙◌}
use borrow.Author.Rules.{rules}
use lib.ListN.{length, length-map}
use lib.Seq.{sets}
use Rattle.std.proofs.lemmas.Result.{err_from_is_err_and}
use Rattle.protocol.specs.Text.{cdm_of}
use Rattle.protocol.proofs.Text.{good_long}
use Rattle.protocol.proofs.Fault.{nothing_wrong}
use Rattle.rows_text.specs.RowsText.{bad_form, bit_at}
use Rattle.rows_text.proofs.Ends.{form_good, fault_there, lines_of_text, room_enough, taken_bad, taken_refused, taken_columns}
use Rattle.rows_text.proofs.text_to_rows.Goals as goal

pub returns-in_err-formed : goal.returns-in_err-formed
returns-in_err-formed c =
    let p = err_from_is_err_and c.from_residual.result c.from_residual.ensures.1 in
    rw (p.1, p.2) (taken_bad _ _ _ _ (c.in_err-formed.ensures ∙ ap bad_form (fault_there _ _ c.stop_of.ensures)))

pub slice_bounds-as_chunks-count : goal.slice_bounds-as_chunks-count
slice_bounds-as_chunks-count c =
    let none_there = form_good _ (sym (c.in_ok-formed.ensures ∙ ap bad_form (fault_there _ _ c.stop_of.ensures))) in
    good_long _ (nothing_wrong _ none_there)

pub slice_bounds-as_chunks-start : goal.slice_bounds-as_chunks-start
slice_bounds-as_chunks-start c =
    let none_there = form_good _ (sym (c.in_ok-formed.ensures ∙ ap bad_form (fault_there _ _ c.stop_of.ensures))) in
    let long = good_long _ (nothing_wrong _ none_there) in
    search rules

pub returns-in_err-text_room : goal.returns-in_err-text_room
returns-in_err-text_room c =
    let none_there = form_good _ (sym (c.in_ok-formed.ensures ∙ ap bad_form (fault_there _ _ c.stop_of.ensures))) in
    let lines = c.as_chunks.result.0.now in
    let columns : length lines ≡ length (cdm_of c.args.text.now)
    = sym (length-map lines (bit_at 0)) ∙ ap length (lines_of_text _ lines c.as_chunks.ensures.front).0 in
    let p = err_from_is_err_and c.from_residual-in_err-text_room.result c.from_residual-in_err-text_room.ensures.1 in
    rw (p.1, p.2) (taken_refused _ _ _ none_there _ columns _ c.in_err-text_room.ensures)

pub put_rows-requires : goal.put_rows-requires
put_rows-requires c = room_enough _ _ _ (sym c.in_ok-text_room.ensures)

pub returns : goal.returns
returns c =
    let none_there = form_good _ (sym (c.in_ok-formed.ensures ∙ ap bad_form (fault_there _ _ c.stop_of.ensures))) in
    let a = c.args in
    let lines = c.as_chunks.result.0.now in
    let rows = lines_of_text _ lines c.as_chunks.ensures.front in
    let columns : length lines ≡ length (cdm_of a.text.now) = sym (length-map lines (bit_at 0)) ∙ ap length rows.0 in
    taken_columns _ _ _ none_there _ columns c.in_ok-text_room.ensures _ _ (c.put_rows.ensures.cdm ∙ ap (sets a.cdm.now 0) rows.0)
    (c.put_rows.ensures.cds ∙ ap (sets a.cds.now 0) rows.1)
