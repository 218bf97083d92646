-- `build::build_write` meets its contract: a write is an access of its bytes. Assumes nothing.
use lib.ListN.{length-map}
use Rattle.protocol.specs.Building.{write}
use Rattle.build.specs.Build.{outside}
use Rattle.build.proofs.Rows.{made_write}
use Rattle.build.proofs.Ends.{accessed_built}
use Rattle.build.proofs.build_write.Goals as goal

pub returns : goal.returns
unfolding outside
returns c =
    let a = c.args in
    accessed_built (write a.id a.address a.bytes.now a.wait) (rw length-map) (made_write a.id a.address a.bytes.now a.wait) c.build.ensures
