-- `build::Access::columns` meets its contract. Assumes nothing.
use Rattle.build.proofs.Rows.{length_row}
use Rattle.build.proofs.Access.columns.Goals as goal

pub returns : goal.returns
returns g c =
    let a = c.args.self in
    let b = g.B.Bytes in
    rw (
      length_row b.written a.id a.address a.wait (b.twelves a.bytes) c.count.ensures.each,
      c.delayed.ensures.0,
      c.count.ensures.count,
    )
