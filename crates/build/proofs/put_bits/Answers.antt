-- `build::put_bits` meets its contract. Assumes nothing.
use mathlib.Core.Path.{◌≡◌, refl, ◌∙◌}
use Prim.Native.Nat.{◌-◌}
use native.Mathlib.Omega.{arith}
use Rattle.protocol.specs.Bits.{bits}
use Rattle.build.proofs.Columns.{bit_laid}
use Rattle.build.proofs.put_bits.Goals as goal

pub loop-place-preserved : goal.loop-place-preserved
loop-place-preserved c =
    let l = c.loop-place in
    let a = c.args in
    bit_laid l.out a.at a.n l.place a.w c.loop-place-test.true ∙ l.invariant

pub returns : goal.returns
unfolding bits
returns c = let none : c.args.n - c.loop-place.place ≡ 0 = omega arith in (refl, rw none at c.loop-place.invariant)
