-- `checkbits::header_check` meets its contract: the table is the definition tabulated, which antt computes, entry for entry, and the check
-- of eleven bits looks at eleven bits alone. Assumes nothing.
use mathlib.Core.Path.{◌∙◌}
use Prim.Native.Nat.{◌%◌, ◌^◌}
use native.Mathlib.Omega.{arith}
use Rattle.laws.proofs.Table.{tabulated}
use Rattle.protocol.specs.Bits.{bit}
use Rattle.protocol.specs.Division.{header_bits, divide_bit, divide, remainder, check}
use Rattle.protocol.proofs.Division.{check_low}
use Rattle.checkbits.proofs.header_check.Goals as goal

pub returns : goal.returns
unfolding check remainder divide divide_bit bit
returns c = tabulated (check header_bits) 0 (2 ^ header_bits) (c.args.word % 2048) (omega arith) ∙ check_low header_bits c.args.word
