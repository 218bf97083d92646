-- `build::build_read` meets its contract: a read is an access of so many bytes. Assumes nothing.
use lib.ListN.{length-replicate}
use Rattle.protocol.specs.Building.{read}
use Rattle.build.specs.Build.{outside}
use Rattle.build.proofs.Rows.{made_read}
use Rattle.build.proofs.Ends.{accessed_built}
use Rattle.build.proofs.build_read.Goals as goal

pub returns : goal.returns
unfolding outside
returns c =
    let a = c.args in
    accessed_built (read a.id a.address a.count a.wait) (rw length-replicate) (made_read a.id a.address a.count a.wait) c.build.ensures
