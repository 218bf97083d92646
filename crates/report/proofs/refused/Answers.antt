-- `report::refused` meets its contract: the word, the number, what is told beside it and the line feed in a line of its own, then the
-- line. Assumes nothing.
use mathlib.Core.Path.{sym}
use Prim.Native.Nat.{◌≤◌}
use borrow.Author.Rules.{rules}
use lib.ListN.{length, length-set}
use lib.Seq.{length-take-le}
use Rattle.protocol.specs.Text.{decimal}
use Rattle.job.specs.Refusals.{detail}
use Rattle.print.proofs.Laid.{laid_length}
use Rattle.report.proofs.Lines.{twenty, number_end, refused_front}
use Rattle.report.proofs.refused.Goals as goal

pub put_number-told-requires : goal.put_number-told-requires
put_number-told-requires c =
    let short : length (decimal c.number.result) ≤ 20 = twenty c.number.result (search rules) in
    let kept = laid_length c.put_bytes-tab.ensures in
    let at = c.put_bytes-tab.ensures.behind in
    search rules

pub put_beside-feed-requires : goal.put_beside-feed-requires
put_beside-feed-requires c =
    let end = number_end _ (search rules) c.put_bytes-tab.ensures c.put_number-told.ensures in
    let kept = laid_length c.put_bytes-tab.ensures in
    let kept' = laid_length c.put_number-told.ensures in
    search rules

pub bounds-line-feed : goal.bounds-line-feed
bounds-line-feed c =
    let end = number_end _ (search rules) c.put_bytes-tab.ensures c.put_number-told.ensures in
    search rules

pub overflow_add-line : goal.overflow_add-line
overflow_add-line c =
    let end = number_end _ (search rules) c.put_bytes-tab.ensures c.put_number-told.ensures in
    search rules

pub slice_bounds-line-end : goal.slice_bounds-line-end
slice_bounds-line-end c =
    let end = number_end _ (search rules) c.put_bytes-tab.ensures c.put_number-told.ensures in
    rw length-set (search rules)

pub slice_bounds-whole-end : goal.slice_bounds-whole-end
slice_bounds-whole-end c =
    let end = number_end _ (search rules) c.put_bytes-tab.ensures c.put_number-told.ensures in
    sym (length-take-le _ _ (rw length-set (search rules)))

pub returns : goal.returns
returns c =
    let why = c.args.why in
    let end = number_end _ (search rules) c.put_bytes-tab.ensures c.put_number-told.ensures in
    let front = refused_front _ (search rules) c.put_bytes-tab.ensures c.put_number-told.ensures (detail why.beside) c.put_beside-feed.ensures.0 (search rules) in
    rw (← c.number.ensures) (rw front at c.whole.ensures)
