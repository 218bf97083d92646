-- `list_text::line_length` meets its contract: the name, the fields and the line feed are counted. Assumes nothing.
use mathlib.Core.Path.{◌≡◌}
use native.Mathlib.Omega.{arith}
use Rattle.protocol.specs.Layout.{numbers}
use Rattle.protocol.specs.Text.{cells}
use Rattle.lists.specs.Entries.{entry_of}
use Rattle.list_text.proofs.Parts.{line_length_lem, cells_length}
use Rattle.list_text.proofs.line_length.Goals as goal

pub loop-i-init : goal.loop-i-init
loop-i-init c = let all = line_length_lem (entry_of c.args.e) in record { counted = omega arith; small = omega arith }

pub loop-i-preserved : goal.loop-i-preserved
loop-i-preserved c =
    let more = cells_length (entry_of c.args.e) numbers c.loop-i.i c.loop-i-test.true in
    let one = rw c.number.ensures at c.field_length-n.ensures in
    record { counted = omega arith; small = omega arith }

pub returns : goal.returns
unfolding cells
returns c =
    let done : c.loop-i.i ≡ 6 = omega arith in
    let all = rw done at c.loop-i.invariant.counted in omega arith
