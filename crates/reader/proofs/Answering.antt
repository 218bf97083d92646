-- A column of a command that does not end it. Assumes nothing.
use mathlib.Core.Path.{◌≡◌, refl, sym}
use mathlib.Core.Bool.{Bool, true, false, false≢true}
use Prim.Native.Nat.{ℕ, zero, suc}
use Rattle.protocol.specs.Reader.{acknowledge, acknowledged, look}
use Rattle.machine.specs.Commands.{stops_at}

pub answers : (c : ℕ) (m : Bool) (ids cmd lock word : ℕ) (fitting x : Bool) → stops_at c m ≡ false
    → look (acknowledge c ids cmd lock word fitting) m x ≡ acknowledged c ids cmd lock word fitting x
unfolding look stops_at
answers zero true ids cmd lock word fitting x h = refl
answers zero false ids cmd lock word fitting x h = absurd (false≢true (sym h))
answers (suc c) m ids cmd lock word fitting x h = refl
