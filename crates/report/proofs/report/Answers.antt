-- `report::report` meets its contract: the list that the text shows is printed, or the refusal. Assumes nothing.
use mathlib.Core.Path.{sym}
use borrow.Author.Rules.{rules}
use lib.Seq.{length-take-le}
use Rattle.report.proofs.Rows.{shown_within, shown_printed, refusal_printed}
use Rattle.report.proofs.report.Goals as goal

pub overflow_mul-list : goal.overflow_mul-list
overflow_mul-list c =
    let within = shown_within c.args.text.now c.args.opening c.in-Ok.ensures in
    search rules

pub slice_bounds-list-end : goal.slice_bounds-list-end
slice_bounds-list-end c = shown_within c.args.text.now c.args.opening c.in-Ok.ensures

pub slice_bounds-list_to_text-end : goal.slice_bounds-list_to_text-end
slice_bounds-list_to_text-end c = sym (length-take-le _ _ (shown_within c.args.text.now c.args.opening c.in-Ok.ensures))

pub returns-in-Ok : goal.returns-in-Ok
returns-in-Ok c = shown_printed c.args.text.now c.args.opening c.in-Ok.ensures c.list_to_text.ensures

pub returns-in-Err : goal.returns-in-Err
returns-in-Err c = rw (refusal_printed c.args.text.now c.args.opening c.in-Err.ensures) at c.refused.ensures
