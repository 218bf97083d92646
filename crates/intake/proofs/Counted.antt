-- What was printed stands at the start of its buffer. Assumes nothing.
use mathlib.Core.Path.{sym}
use mathlib.Core.List.{List}
use Rattle.std.specs.Prelude.{Ok}
use Prim.Native.Nat.{ℕ}
use lib.Seq.{length-take-le}
use Rattle.report.specs.Report.{Whole}
use Rattle.report.proofs.Lines.{printed_within}
use Rattle.intake.specs.Counted.{IsPrefixLen}

pub printable : {text out : List ℕ} {n : ℕ} {after : List ℕ} → Whole text out (Ok n) after → IsPrefixLen n after
printable {text} {out} {n} {after} printed =
    let h = printed_within text out printed in (h, sym (length-take-le n after h))
