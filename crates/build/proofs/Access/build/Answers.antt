-- `build::Access::build` meets its contract: its row is its first columns and its bytes. Assumes nothing.
use mathlib.Core.Path.{sym}
use borrow.Author.Rules.{rules}
use Rattle.std.proofs.lemmas.Result.{err_from_is_err_and}
use Rattle.build.proofs.Requests.{inside}
use Rattle.build.proofs.Ends.{is_inside, ends_refused, head_room, bytes_room, access_made}
use Rattle.build.proofs.Access.build.Goals as goal

pub returns-in_err-refused : goal.returns-in_err-refused
returns-in_err-refused g c =
    let p = err_from_is_err_and c.from_residual.result c.from_residual.ensures.1 in
    rw (p.1, p.2) (record { ends = ends_refused _ _ _ _ c.in_err-refused.ensures })

pub put_head-requires : goal.put_head-requires
put_head-requires g c =
    let e = sym c.in_ok-refused.ensures in
    let within = inside _ _ _ (is_inside _ _ _ e) in
    (head_room _ _ _ _ _ _ e, search rules, search rules)

pub put_bytes-requires : goal.put_bytes-requires
put_bytes-requires g c = bytes_room _ _ _ _ _ _ (sym c.in_ok-refused.ensures) _ c.put_head.ensures

pub returns : goal.returns
returns g c = access_made _ _ _ _ _ _ (sym c.in_ok-refused.ensures) _ c.put_head.ensures c.put_bytes.ensures
