-- `read::keep` meets its contract: laid where there is room. Assumes nothing.
use mathlib.Core.Path.{◌≡◌, sym, ◌∙◌}
use Prim.Native.Nat.{◌+◌, ◌*◌, ◌≤◌}
use native.Mathlib.Omega.{arith}
use borrow.Author.Tests.{lt-ltb, le-ltb}
use lib.ListN.{length, drop, drop_of_length-le}
use lib.Seq.{sets}
use Rattle.read.specs.Parts.{kept}
use Rattle.read.proofs.keep.Goals as goal

pub returns-after-loop-i : goal.returns-after-loop-i
unfolding kept
returns-after-loop-i c =
    let l = c.loop-i in
    let entry = c.args.entry.now in
    let none : length entry ≤ l.i = omega (arith, c.loop-i-test.false) in
    let all : sets l.out (9 * c.args.n + l.i) (drop l.i entry) ≡ l.out = rw (drop_of_length-le entry none) in
    rw (lt-ltb _ _ c.if-n-out.true) (sym all ∙ l.invariant.1)

pub returns-else-n-out : goal.returns-else-n-out
unfolding kept
returns-else-n-out c = rw (le-ltb _ _ c.if-n-out.false)
