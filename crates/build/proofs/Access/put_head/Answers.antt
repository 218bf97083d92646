-- `build::Access::put_head` meets its contract: thirty-two bits of one number. Assumes nothing.
use mathlib.Core.Path.{◌∙◌}
use borrow.Author.Rules.{rules}
use Rattle.build.proofs.Rows.{access_bits}
use Rattle.build.proofs.Access.put_head.Goals as goal

pub returns : goal.returns
returns g c =
    let a = c.args.self in
    c.put_bits.ensures.1
    ∙ rw (c.frame_head-start.ensures.0, c.way.ensures.0, access_bits g.B.Bytes.written a.id a.address (search rules))
