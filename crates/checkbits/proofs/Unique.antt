-- Each promise of this crate has one result: two results that meet it are equal. Assumes nothing.
use mathlib.Core.Path.{◌≡◌}
use mathlib.Core.Bool.{Bool}
use Prim.Native.Nat.{ℕ}
use Rattle.protocol.specs.Bits.{push}
use Rattle.protocol.specs.Division.{header_bits, data_bits, check, fits}
use Rattle.laws.proofs.Unique.{one_result}

header_check_unique : (word a b : ℕ) → a ≡ check header_bits word → b ≡ check header_bits word → a ≡ b
header_check_unique word a b p q = one_result p q

byte_check_unique : (value a b : ℕ) → a ≡ check data_bits value → b ≡ check data_bits value → a ≡ b
byte_check_unique value a b p q = one_result p q

header_fits_unique : (word : ℕ) (a b : Bool) → a ≡ fits header_bits word → b ≡ fits header_bits word → a ≡ b
header_fits_unique word a b p q = one_result p q

byte_fits_unique : (word : ℕ) (a b : Bool) → a ≡ fits data_bits word → b ≡ fits data_bits word → a ≡ b
byte_fits_unique word a b p q = one_result p q

pushed_unique : (word : ℕ) (bit : Bool) (a b : ℕ) → a ≡ push word bit → b ≡ push word bit → a ≡ b
pushed_unique word bit a b p q = one_result p q
