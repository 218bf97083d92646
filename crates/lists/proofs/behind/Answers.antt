-- `lists::behind` meets its contract: each field stands at its place. Assumes nothing.
use Rattle.protocol.specs.Pieces.{number_at}
use Rattle.lists.proofs.behind.Goals as goal

pub returns : goal.returns
unfolding number_at
returns g c = rw (c.from_be_bytes.ensures, c.from_be_bytes-2.ensures)
