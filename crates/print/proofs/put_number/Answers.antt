-- `print::put_number` meets its contract: a TAB, and the digits. Assumes nothing.
use borrow.Author.Rules.{rules}
use lib.ListN.{length-set}
use Rattle.print.proofs.Laid.{then, one_byte, laid_length}
use Rattle.print.proofs.put_number.Goals as goal

pub put_decimal-requires : goal.put_decimal-requires
put_decimal-requires c = rw length-set (search rules)

pub shape_of-out : goal.shape_of-out
shape_of-out c =
    let a = c.args in
    laid_length (then (one_byte a.out.now a.at 9) c.put_decimal.ensures)

pub returns : goal.returns
returns c =
    let a = c.args in
    then (one_byte a.out.now a.at 9) c.put_decimal.ensures
