-- `list_text::put_line` meets its contract: the name, the fields one after another, and the line feed. Assumes nothing.
use mathlib.Core.Path.{◌≡◌}
use native.Mathlib.Omega.{arith}
use Rattle.protocol.specs.Layout.{numbers}
use Rattle.protocol.specs.Text.{cells, entry_line}
use Rattle.lists.specs.Entries.{entry_of}
use Rattle.list_text.proofs.Parts.{line_length_lem, cells_length, left_all, left_behind, field_behind, line_end}
use Rattle.list_text.proofs.put_line.Goals as goal

pub put_name-p-requires : goal.put_name-p-requires
put_name-p-requires c = let all = line_length_lem (entry_of c.args.e) in omega arith

pub loop-i-init : goal.loop-i-init
unfolding entry_line
loop-i-init c = left_behind _ (left_all c.requires) c.put_name-p.ensures

pub put_field-p-requires : goal.put_field-p-requires
put_field-p-requires c =
    let more = cells_length (entry_of c.args.e) numbers _ c.loop-i-test.true in
    rw c.number.ensures (omega (arith, c.loop-i.invariant.fits))

pub loop-i-preserved : goal.loop-i-preserved
loop-i-preserved c =
    field_behind (entry_of c.args.e) numbers _ c.loop-i-test.true c.loop-i.invariant
    (rw c.number.ensures at c.put_field-p.ensures)

pub bounds-out-p : goal.bounds-out-p
unfolding cells
bounds-out-p c =
    let done : c.loop-i.i ≡ 6 = omega arith in
    let left = rw done at c.loop-i.invariant in omega (arith, left.fits)

pub returns : goal.returns
returns c =
    let done : c.loop-i.i ≡ 6 = omega arith in
    line_end (entry_of c.args.e) (rw done at c.loop-i.invariant)
