-- `read::Opened::has_room` meets its contract: no list has more entries than columns are left. Assumes nothing.
use native.Mathlib.Omega.{arith}
use borrow.Author.Tests.{le-leb}
use lib.ListN.{length}
use Rattle.read.proofs.Left.{length_listed}
use Rattle.read.specs.Read.{list_of}
use Rattle.read.proofs.Opened.has_room.Goals as goal

pub returns-then-self-room : goal.returns-then-self-room
returns-then-self-room c =
    let a = c.args in
    let list = list_of a.self.opening a.self.cdm.now a.self.cds.now in
    rw (le-leb _ a.room c.if-self-room.true, le-leb (length list) a.room (omega (arith, length_listed a.self.opening a.self.cdm.now a.self.cds.now)))
