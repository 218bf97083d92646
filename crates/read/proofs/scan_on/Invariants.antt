-- The loop's invariant of `read::scan_on`: what is reached from here over the columns that are left is what is reached from the start over
-- all.
use mathlib.Core.Path.{◌≡◌}
use Prim.Native.Nat.{◌+◌, ◌≤◌}
use lib.ListN.{drop}
use Rattle.protocol.specs.Bits.{row_of}
use Rattle.protocol.specs.Reader.{columns}
use Rattle.reader.specs.Code.{state_of, place_of}
use Rattle.read.specs.Parts.{reached}
use Rattle.read.proofs.scan_on.Given as goal

abbrev pub invariant-loop-i : goal.invariant-loop-i
invariant-loop-i l =
    let r = l.reading in
    let start = l.initial.reading in
    (r.column ≡ start.column + l.i) × (r.count ≤ start.count + l.i) × ((place_of r.reader r.column).start ≤ r.column)
    × (reached (state_of r.reader) (place_of r.reader r.column) r.banks.known r.count l.out (drop l.i (columns (row_of l.cdm) (row_of l.cds)))
    ≡ reached (state_of start.reader) (place_of start.reader start.column) start.banks.known start.count l.initial.out (columns (row_of l.cdm) (row_of l.cds)))
