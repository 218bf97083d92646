-- `read::entry_bytes` meets its contract: the layout's bytes, written out. Assumes nothing.
use mathlib.Core.Path.{◌≡◌}
use Prim.Native.Nat.{◌/◌, ◌%◌}
use native.Mathlib.Omega.{arith}
use Rattle.protocol.specs.Pieces.{in_bytes}
use Rattle.protocol.specs.Layout.{bytes_of, field_bytes}
use Rattle.read.proofs.entry_bytes.Goals as goal

pub returns : goal.returns
unfolding bytes_of field_bytes in_bytes
returns c =
    let p = c.args.place in
    let column : p.column / 256 % 256 ≡ p.column / 256 = omega arith in
    let start : p.start / 256 % 256 ≡ p.start / 256 = omega arith in
    rw (c.to_be_bytes-column.ensures, c.to_be_bytes-start.ensures, c.number.ensures, column, start)
