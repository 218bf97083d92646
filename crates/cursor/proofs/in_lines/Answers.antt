-- `cursor::in_lines` meets its contract. Assumes nothing.
use Prim.Native.Nat.{◌+◌, ◌≤◌}
use mathlib.Core.Path.{◌∙◌}
use borrow.Author.Rules.{rules}
use lib.ListN.{length}
use Rattle.cursor.proofs.Lines.{left_lines, lines_within}
use Rattle.cursor.proofs.in_lines.Goals as goal

pub overflow_add-result : goal.overflow_add-result
overflow_add-result c =
    let past = c.past_lines-past in
    let low : past.result + c.formed.result ≤ length c.args.lines.now = lines_within c.args.lines.now _ _ c.formed.ensures past.ensures.within in
    search rules

pub returns : goal.returns
returns c =
    let past = c.past_lines-past.ensures in
    left_lines c.args.lines.now _ _ c.formed.ensures past.whole ∙ past.left
