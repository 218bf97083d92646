-- `report::put_beside` meets its contract: nothing, two numbers, or one. Assumes nothing.
use mathlib.Core.Path.{refl}
use Prim.Native.Nat.{◌≤◌}
use borrow.Author.Rules.{rules}
use lib.ListN.{length}
use Rattle.protocol.specs.Text.{decimal}
use Rattle.print.proofs.Laid.{laid_length}
use Rattle.report.specs.Report.{fields}
use Rattle.report.proofs.Lines.{twenty, one_field, two_fields}
use Rattle.report.proofs.put_beside.Goals as goal

pub put_number-tab-requires : goal.put_number-tab-requires
put_number-tab-requires c =
    let line = c.in-OnLine.line in
    let short : length (decimal line) ≤ 20 = twenty line (search rules) in
    search rules

pub put_number-requires : goal.put_number-requires
put_number-requires c =
    let short : length (decimal c.in-OnLine.line) ≤ 20 = twenty c.in-OnLine.line (search rules) in
    let short' : length (decimal c.in-OnLine.byte) ≤ 20 = twenty c.in-OnLine.byte (search rules) in
    let there = c.put_number-tab.ensures.behind in
    let kept = laid_length c.put_number-tab.ensures in
    search rules

pub put_number-requires-in-OfJob : goal.put_number-requires-in-OfJob
put_number-requires-in-OfJob c =
    let job = c.in-OfJob.job in
    let short : length (decimal job) ≤ 20 = twenty job (search rules) in
    search rules

pub returns-in-Alone : goal.returns-in-Alone
unfolding fields
returns-in-Alone c = rw c.in-Alone.is (record { behind = search rules; laid = refl }, search rules)

pub returns-in-OnLine : goal.returns-in-OnLine
returns-in-OnLine c =
    let short : length (decimal c.in-OnLine.line) ≤ 20 = twenty c.in-OnLine.line (search rules) in
    let short' : length (decimal c.in-OnLine.byte) ≤ 20 = twenty c.in-OnLine.byte (search rules) in
    let there = c.put_number-tab.ensures.behind in
    let there' = c.put_number.ensures.behind in
    rw c.in-OnLine.is (two_fields c.in-OnLine.line c.in-OnLine.byte c.put_number-tab.ensures c.put_number.ensures, search rules)

pub returns-in-OfJob : goal.returns-in-OfJob
returns-in-OfJob c =
    let short : length (decimal c.in-OfJob.job) ≤ 20 = twenty c.in-OfJob.job (search rules) in
    let there = c.put_number-in-OfJob.ensures.behind in
    rw c.in-OfJob.is (one_field c.in-OfJob.job c.put_number-in-OfJob.ensures, search rules)
