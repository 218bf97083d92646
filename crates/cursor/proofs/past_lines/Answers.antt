-- `cursor::past_lines` meets its contract. Assumes nothing.
use mathlib.Core.Path.{sym, ◌∙◌}
use native.Mathlib.Omega.{arith}
use Rattle.cursor.proofs.Lines.{line_formed}
use Rattle.cursor.proofs.past_lines.Goals as goal

pub loop-i-preserved : goal.loop-i-preserved
loop-i-preserved c =
    let l = c.loop-i in
    let lines = c.as_chunks.ensures in
    line_formed c.args.bytes.now _ l.i lines.front (omega (arith, lines.front_len)) (sym c.if-not-is_column.false ∙ c.is_column.ensures) ∙ l.invariant
