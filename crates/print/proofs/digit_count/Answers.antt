-- `print::digit_count` meets its contract: between two powers of ten the count is known. Assumes nothing.
use native.Mathlib.Omega.{arith}
use Rattle.print.proofs.Decimal.{length_by_power, decimal_short}
use Rattle.print.proofs.digit_count.Goals as goal

pub returns : goal.returns
returns c =
    let n = c.args.n in
    let power = c.checked_ilog10 in
    let digits = length_by_power n power.result power.ensures.none power.ensures.power_le power.ensures.next_power_gt in
    let short = decimal_short 4 n (omega arith) in
    rw c.unwrap_or.ensures (digits, rw digits short)
