-- `list_text::room_left` meets its contract: the header and one line after another are counted down. Assumes nothing.
use native.Mathlib.Omega.{arith}
use mathlib.Core.Path.{ap}
use lib.ListN.{length}
use Rattle.lists.specs.Entries.{entries_left}
use Rattle.list_text.proofs.Lists.{lines_length, lines_none, text_length}
use Rattle.list_text.proofs.room_left.Goals as goal

pub returns-in_err-left : goal.returns-in_err-left
returns-in_err-left c =
    let text = text_length (entries_left c.args.list) in
    rw c.from_residual.ensures (λ h. c.in_err-left.ensures (omega arith))

pub returns-in_err-left-2 : goal.returns-in_err-left-2
returns-in_err-left-2 c =
    let text = text_length (entries_left c.args.list) in
    let long = lines_length c.in-Some.ensures.steps in
    rw c.from_residual-in_err-left-2.ensures (λ h. c.in_err-left-2.ensures (omega (arith, c.loop-e.invariant)))

pub loop-e-preserved : goal.loop-e-preserved
loop-e-preserved c =
    let long = lines_length c.in-Some.ensures.steps in
    omega (arith, c.loop-e.invariant, c.in_ok-left-2.ensures)

pub returns : goal.returns
returns c =
    let text = text_length (entries_left c.args.list) in
    let none = ap length (lines_none c.in-None.ensures.steps.0) in
    (omega (arith, c.loop-e.invariant), omega (arith, c.loop-e.invariant))
