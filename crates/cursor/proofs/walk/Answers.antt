-- `cursor::walk` meets its contract. Assumes nothing.
use Prim.Native.Nat.{ℕ, ◌*◌, ◌%◌, ◌≤◌}
use mathlib.Core.Path.{◌≡◌, sym, ap, ◌∙◌}
use native.Mathlib.Omega.{arith}
use borrow.Author.Rules.{rules}
use lib.ListN.{length}
use Rattle.protocol.specs.Fault.{stop}
use Rattle.protocol.proofs.Stop.{stop_first}
use Rattle.cursor.proofs.Lines.{behind_front, stop_within}
use Rattle.cursor.proofs.walk.Goals as goal

pub overflow_add-result : goal.overflow_add-result
overflow_add-result c =
    let a = c.args in
    let begun = c.formed-begun in
    let low : begun.result ≤ length c.split_at.result.0.now = stop_within _ a.before _ begun.ensures in
    let more : c.in_lines.result ≤ length c.split_at.result.1.now = stop_within _ 8 _ c.in_lines.ensures in
    search rules

pub returns-then-begun-front : goal.returns-then-begun-front
returns-then-begun-front c =
    let a = c.args in
    let e = c.formed-begun.ensures in
    let here = stop_first c.split_at.result.1.now a.before c.split_at.result.0.now (omega (arith, e)) in
    e ∙ sym here ∙ ap (stop a.before) (sym c.split_at.ensures.by_index.0)

pub returns-else-begun-front : goal.returns-else-begun-front
returns-else-begun-front c =
    let a = c.args in
    let start : ℕ = c.div_ceil-start.result * 4 in
    let even : start % 4 ≡ 0 = omega arith in
    let below : 8 ≤ start = omega arith in
    let after : a.before ≤ start = omega arith in
    behind_front _ _ a.before _ _ start c.formed-begun.ensures c.if-begun-front.false c.in_lines.ensures even below after (omega arith)
    ∙ ap (stop a.before) (sym c.split_at.ensures.by_index.0)
