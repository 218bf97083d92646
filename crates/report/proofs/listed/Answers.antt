-- `report::listed` meets its contract: the rows that a text gives are read, or the refusal stays. Assumes nothing.
use mathlib.Core.Path.{◌≡◌, refl, sym}
use Rattle.std.specs.Prelude.{Ok, Err}
use Rattle.std.proofs.lemmas.Result.{err_from_is_err_and}
use Prim.Native.Nat.{◌*◌}
use native.Mathlib.Omega.{arith}
use lib.ListN.{length}
use lib.Seq.{length-take-le}
use Rattle.protocol.specs.Limits.{column_limit}
use Rattle.protocol.specs.Layout.{current, entry_bytes}
use Rattle.job.proofs.Refusals.{ended_refused}
use Rattle.report.proofs.Rows.{says, shows}
use Rattle.report.proofs.listed.Goals as goal

pub slice_bounds-cdm-end : goal.slice_bounds-cdm-end
slice_bounds-cdm-end c =
    let t = says _ _ _ refl refl (Ok _) c.in_ok-n.ensures in
    t.in_cdm

pub slice_bounds-read-end : goal.slice_bounds-read-end
slice_bounds-read-end c =
    let t = says _ _ _ refl refl (Ok _) c.in_ok-n.ensures in
    sym (length-take-le _ _ t.in_cdm)

pub slice_bounds-cds-end : goal.slice_bounds-cds-end
slice_bounds-cds-end c =
    let t = says _ _ _ refl refl (Ok _) c.in_ok-n.ensures in
    t.in_cds

pub slice_bounds-read-end-2 : goal.slice_bounds-read-end-2
slice_bounds-read-end-2 c =
    let t = says _ _ _ refl refl (Ok _) c.in_ok-n.ensures in
    sym (length-take-le _ _ t.in_cds)

pub returns-in_err-n : goal.returns-in_err-n
returns-in_err-n c =
    let t = says _ _ _ refl refl (Err _) c.in_err-n.ensures in
    let p = err_from_is_err_and c.from_residual.result c.from_residual.ensures.1 in
    rw (p.1, p.2) (ended_refused _ _ _ _ (t c.args.opening))

pub returns : goal.returns
returns c =
    let t = says _ _ _ refl refl (Ok _) c.in_ok-n.ensures in
    let room : entry_bytes current * column_limit ≡ length c.args.list.now = omega arith in
    shows t _ _ room c.read.ensures
