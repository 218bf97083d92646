-- `cursor::Form::at` meets its contract: a byte of the names, or by its place in a column's line. Assumes nothing.
use Prim.Native.Nat.{◌%◌}
use native.Mathlib.Omega.{arith}
use mathlib.Core.Path.{refl}
use Rattle.protocol.proofs.Stop.{column_form_lem}
use Rattle.cursor.proofs.Lines.{name_form, digit_form}
use Rattle.cursor.proofs.Form.at.Goals as goal

pub returns-then-place-lt-HEADER : goal.returns-then-place-lt-HEADER
returns-then-place-lt-HEADER c = rw (name_form _ c.if-place-lt-HEADER.true)

pub returns-in-1 : goal.returns-in-1
returns-in-1 c = rw (column_form_lem _ 1 c.if-place-lt-HEADER.false c.in-1.is)

pub returns-in-3 : goal.returns-in-3
returns-in-3 c = rw (column_form_lem _ 3 c.if-place-lt-HEADER.false c.in-3.is)

pub returns-in_default : goal.returns-in_default
returns-in_default c =
    rw (column_form_lem _ _ c.if-place-lt-HEADER.false refl, digit_form (c.args.place % 4) (omega arith) (omega arith))
