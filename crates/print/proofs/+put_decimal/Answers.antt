-- `print::put_decimal` meets its contract, by the two rules of decimal numbers. Assumes nothing.
use mathlib.Core.Path.{ap}
use borrow.Author.Rules.{rules}
use lib.ListN.{length}
use Rattle.print.proofs.Decimal.{decimal_one, decimal_more, decimal_longer}
use Rattle.print.proofs.Laid.{then, one_byte}
use Rattle.print.proofs.+put_decimal.Goals as goal

pub bounds-out-at : goal.bounds-out-at
bounds-out-at t c = let long = ap length (decimal_one _ c.if-n-lt10.true) in search rules

pub put_decimal-p-requires : goal.put_decimal-p-requires
put_decimal-p-requires t c =
    let shorter = decimal_longer _ c.if-n-lt10.false in
    let room = c.requires in
    (search rules, search rules)

pub bounds-out-p : goal.bounds-out-p
bounds-out-p t c =
    let put = c.put_decimal-p in
    let longer = decimal_longer _ c.if-n-lt10.false in
    let kept = put.auto.out in
    search rules

pub overflow_add-result-else-n-lt10 : goal.overflow_add-result-else-n-lt10
overflow_add-result-else-n-lt10 t c =
    let put = c.put_decimal-p in
    let longer = decimal_longer _ c.if-n-lt10.false in
    let kept = put.auto.out in
    search rules

pub returns-then-n-lt10 : goal.returns-then-n-lt10
returns-then-n-lt10 t c =
    let a = c.args in
    rw (decimal_one a.n c.if-n-lt10.true) (one_byte a.out.now a.at _)

pub returns-else-n-lt10 : goal.returns-else-n-lt10
returns-else-n-lt10 t c =
    rw (decimal_more _ c.if-n-lt10.false) (then c.put_decimal-p.ensures (one_byte _ _ _))
