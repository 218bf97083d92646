-- `read::Opened::scan` meets its contract: a reading from power-on over the rows behind the opening column. Assumes nothing.
use native.Mathlib.Nat.{le_refl}
use borrow.Author.Rules.{rules}
use Rattle.reader.specs.Code.{state_of, place_of}
use Rattle.read.proofs.Left.{from_opening}
use Rattle.read.proofs.Opened.scan.Goals as goal

pub scan_on-requires : goal.scan_on-requires
scan_on-requires c =
    let fresh = c.new.ensures in
    (search rules, search rules, search rules, rw fresh (le_refl _))

pub returns : goal.returns
returns c =
    let a = c.args in
    let new = c.new in
    from_opening a.self.cdm.now a.self.cds.now a.self.opening a.n (state_of new.result) (place_of new.result a.self.opening) a.out.now _ new.ensures (rw new.ensures) c.scan_on.ensures
