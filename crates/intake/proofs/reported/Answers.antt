-- `intake::reported` meets its contract: every report fits into its room, and is the one on all that was read. Assumes nothing.
use Rattle.std.proofs.Common.{rules, arith, ◌≡◌, ◌∙◌, sym, ◌+◌, ◌*◌, ◌^◌, ◌<◌, ◌≤◌, length, take}
use Rattle.protocol.specs.Fault.{stop as lines_stop}
use Rattle.cursor.proofs.Lines.{stop_within}
use Rattle.report.specs.Report.{report_room}
use Rattle.report.proofs.Room.{report_made, long_made}
use Rattle.intake.proofs.Counted.{printable}
use Rattle.intake.proofs.Known.{walked_first, walked_on, reports_whole, reports_long}
use Rattle.intake.proofs.reported.Goals as goal

pub unwrap-requires : goal.unwrap-requires
unwrap-requires g c =
    let room : report_room ≤ length c.args.out.now = omega arith in
    let short : length (take c.in_ok-n.n c.fill.new.buf) < 2 ^ 63 = search rules in
    rw (report_made _ room _ _ short c.report.ensures)

pub returns-then-n-lt-PIECE-clause-within : goal.returns-then-n-lt-PIECE-clause-within
returns-then-n-lt-PIECE-clause-within g c = printable (rw c.unwrap.ensures at c.report.ensures)

pub returns-then-n-lt-PIECE-clause-report : goal.returns-then-n-lt-PIECE-clause-report
returns-then-n-lt-PIECE-clause-report g c =
    let read = c.in_ok-n.ensures in
    reports_whole c.args.opening _ _ _ read.bytes (read.end (search rules)) (rw c.unwrap.ensures at c.report.ensures)

pub loop-piece-init : goal.loop-piece-init
loop-piece-init g c =
    record {
      within = search rules;
      counted = c.in_ok-n.ensures.within;
      long = search rules;
      walked = walked_first _ _ _ c.in_ok-n.ensures.bytes;
      ended = λ (h : c.in_ok-n.n < 16396). c.in_ok-n.ensures.end (search rules);
    }

pub loop-piece-preserved : goal.loop-piece-preserved
loop-piece-preserved g c =
    let l = c.loop-piece in
    let place = 16396 * l.piece in
    let here = take l.n l.text in
    let stop = c.stop_in-stop in
    let short = stop_within _ _ _ stop.ensures in
    let counted = l.invariant.counted.1 in
    let full : l.n ≡ 16396 = omega arith in
    let good : lines_stop place here ≡ place + length here = sym stop.ensures ∙ omega arith in
    let next : place + length here ≡ 16396 * (l.piece + 1) = omega arith in
    record {
      within = search rules;
      counted = c.in_ok-n-2.ensures.within;
      long = omega arith;
      walked = rw next at (walked_on _ _ _ place here _ l.invariant.walked good c.in_ok-n-2.ensures.bytes);
      ended = λ (h : c.in_ok-n-2.n < 16396). c.in_ok-n-2.ensures.end (search rules);
    }

pub unwrap-requires-then-stop-lt-PIECE : goal.unwrap-requires-then-stop-lt-PIECE
unwrap-requires-then-stop-lt-PIECE g c =
    let short = stop_within _ _ _ c.stop_in-stop.ensures in
    let counted = c.loop-piece.invariant.counted.1 in
    let room : report_room ≤ length c.loop-piece.out = omega arith in
    rw (long_made _ room _ _ (omega arith) (omega arith) c.long_report.ensures)

pub returns-then-stop-lt-PIECE-clause-within : goal.returns-then-stop-lt-PIECE-clause-within
returns-then-stop-lt-PIECE-clause-within g c = printable (rw c.unwrap-then-stop-lt-PIECE.ensures at c.long_report.ensures)

pub returns-then-stop-lt-PIECE-clause-report : goal.returns-then-stop-lt-PIECE-clause-report
returns-then-stop-lt-PIECE-clause-report g c =
    let l = c.loop-piece in
    let place = 16396 * l.piece in
    let here = take l.n l.text in
    let stop = c.stop_in-stop in
    let counted = l.invariant.counted.1 in
    let stopped : place + stop.result ≡ lines_stop place here = omega (arith, stop.ensures) in
    let read : place + l.n ≡ place + length here = omega arith in
    let printed = rw c.unwrap-then-stop-lt-PIECE.ensures at c.long_report.ensures in
    reports_long c.args.opening _ _ place here l.invariant.walked (omega arith)
    (λ (h : place + length here ≤ lines_stop place here). l.invariant.ended (omega (arith, stop.ensures)))
    (rw (stopped, read) at printed)
