-- `read::scan_on` meets its contract. Assumes nothing.
use mathlib.Core.Path.{◌≡◌, sym, ◌∙◌}
use Prim.Native.Nat.{◌≤◌}
use lib.ListN.{drop_of_length-le}
use borrow.Author.Rules.{rules}
use native.Mathlib.Omega.{arith}
use Rattle.protocol.specs.Limits.{column_limit}
use Rattle.protocol.specs.Bits.{row_of}
use Rattle.protocol.specs.Banks.{bank_of}
use Rattle.protocol.specs.Reader.{columns}
use Rattle.reader.specs.Code.{state_of, place_of, event_of}
use Rattle.read.specs.Parts.{entry_of, kept}
use Rattle.read.proofs.Left.{still_early, early_enough, turn_none, turn_some, none_left, column_here, length_columns}
use Rattle.read.proofs.scan_on.Goals as goal
use Rattle.read.proofs.scan_on.Goals.{in-Some, in_default}

pub entry_bytes-entry-requires : goal.entry_bytes-entry-requires
entry_bytes-entry-requires c =
    let l = c.loop-i in
    let r = l.reading in
    let room : r.column ≤ column_limit = omega (arith, c.requires.1, l.invariant.0, c.loop-i-test.true) in
    (room, early_enough r.reader r.column _ _ c.step-stepped.result c.step-stepped.ensures c.in-Some.event c.in-Some.is l.invariant.2)

pub loop-i-preserved : goal.loop-i-preserved
loop-i-preserved c =
    let l = c.loop-i in
    let a = c.args in
    let r = l.reading in
    let stepped = c.step-stepped.result in
    let here = column_here l.i a.cdm.now a.cds.now c.loop-i-test.true (omega (arith, c.requires.0, c.loop-i-test.true)) in
    let early = still_early r.reader r.column _ _ stepped c.step-stepped.ensures l.invariant.2 in
    elim c.match-stepped.branch [
      | in-Some w ↦
          let e = w.in-Some.event in
          let entry : w.keep.new.out ≡ kept l.out r.count (entry_of (record { column = r.column; start = r.reader.start }) (event_of e) (bank_of r.banks.known (event_of e)))
          = rw (← w.of.ensures, ← w.entry_bytes-entry.ensures) w.keep.ensures in
          rw (w.reading-is, w.out-is, w.learnt-reading.ensures, entry) (
            omega arith,
            omega arith,
            early,
            sym (turn_some r.reader r.column _ _ stepped c.step-stepped.ensures r.banks.known r.count l.out here e w.in-Some.is) ∙ l.invariant.3,
          )
      | in_default w ↦
          rw (w.reading-is, w.out-is) (
            omega arith,
            omega arith,
            early,
            sym (turn_none r.reader r.column _ _ stepped c.step-stepped.ensures r.banks.known r.count l.out here (search rules)) ∙ l.invariant.3,
          )
    ]

pub returns : goal.returns
returns c =
    let l = c.loop-i in
    let r = l.reading in
    let all = columns (row_of c.args.cdm.now) (row_of c.args.cds.now) in
    let none = drop_of_length-le all (omega (arith, length_columns c.args.cdm.now c.args.cds.now, c.loop-i-test.false)) in
    sym (none_left _ none (state_of r.reader) (place_of r.reader r.column) r.banks.known r.count l.out) ∙ l.invariant.3
