-- Words: a bit collected as the code does it is the definitions' push. Assumes nothing.
use mathlib.Core.Path.{◌≡◌}
use mathlib.Core.Bool.{Bool, true, false}
use Prim.Native.Nat.{ℕ, ◌+◌, ◌*◌, ◌%◌, ◌<◌}
use native.Mathlib.Omega.{arith}
use mir.Val.{bool_byte}
use Rattle.protocol.specs.Bits.{push}

pub bool_lt : (b : Bool) → bool_byte b < 2
bool_lt true = omega arith
bool_lt false = omega arith

pub pushed_is : (w : ℕ) (b : Bool) → w % 32768 * 2 + bool_byte b ≡ push w b
unfolding push
pushed_is w true = omega arith
pushed_is w false = omega arith
