-- `cursor::formed` meets its contract. Assumes nothing.
use mathlib.Core.Path.{◌≡◌, sym, ◌∙◌}
use native.Mathlib.Omega.{arith}
use lib.ListN.{length}
use Rattle.cursor.proofs.Lines.{byte_formed, byte_stops, end_stops}
use Rattle.cursor.proofs.formed.Goals as goal

pub returns-then-not-has : goal.returns-then-not-has
returns-then-not-has c =
    let l = c.loop-i in
    let lacks = rw c.at.ensures at (sym c.has.ensures ∙ c.if-not-has.true) in
    byte_stops _ l.i _ (omega arith) lacks ∙ l.invariant

pub loop-i-preserved : goal.loop-i-preserved
loop-i-preserved c =
    let l = c.loop-i in
    let has = rw c.at.ensures at (sym c.has.ensures ∙ c.if-not-has.false) in
    byte_formed _ l.i _ (omega arith) has ∙ l.invariant

pub returns : goal.returns
returns c =
    let l = c.loop-i in
    let end : length c.args.piece.now ≡ l.i = omega arith in
    rw end (end_stops _ l.i _ (omega arith) ∙ l.invariant)
