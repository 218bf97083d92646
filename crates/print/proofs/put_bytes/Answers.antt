-- `print::put_bytes` meets its contract. Assumes nothing.
use mathlib.Core.Path.{◌≡◌, sym, ◌∙◌}
use Prim.Native.Nat.{◌+◌, ◌≤◌}
use native.Mathlib.Omega.{arith}
use borrow.Author.Rules.{rules}
use lib.ListN.{length, drop, drop_of_length-le}
use lib.Seq.{sets}
use Rattle.print.proofs.put_bytes.Goals as goal

pub returns : goal.returns
returns c =
    let l = c.loop-j in
    let bytes = c.args.bytes.now in
    let none : length bytes ≤ l.j = omega (arith, c.loop-j-test.false) in
    let all : sets l.out (c.args.at + l.j) (drop l.j bytes) ≡ l.out = rw (drop_of_length-le bytes none) in
    record { behind = search rules; laid = sym all ∙ l.invariant.1 }
