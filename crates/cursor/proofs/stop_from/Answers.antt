-- `cursor::stop_from` meets its contract: what is left of the text is a piece that begins at the place. Assumes nothing.
use Prim.Native.Nat.{◌≤◌}
use native.Mathlib.Omega.{arith}
use borrow.Author.Rules.{rules}
use lib.ListN.{length}
use Rattle.cursor.proofs.Lines.{stop_within, past_end}
use Rattle.cursor.proofs.stop_from.Goals as goal

pub overflow_add-result : goal.overflow_add-result
overflow_add-result c =
    let piece = c.in-Some.ensures.lookup.0 in
    let low : c.stop_in.result ≤ length c.in-Some.piece.now = stop_within _ c.args.at _ c.stop_in.ensures in
    search rules

pub returns-in-None : goal.returns-in-None
returns-in-None c = past_end _ _ (omega (arith, c.in-None.ensures.lookup.0))
