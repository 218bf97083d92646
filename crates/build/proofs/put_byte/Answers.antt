-- `build::put_byte` meets its contract: ones, and fourteen bits of one number behind them. Assumes nothing.
use mathlib.Core.Bool.{Bool, true}
use mathlib.Core.List.{List}
use mathlib.Core.Path.{refl, ◌∙◌}
use borrow.Author.Rules.{rules}
use lib.ListN.{length-replicate, replicate}
use Rattle.protocol.specs.Bits.{bits}
use Rattle.build.proofs.Columns.{part_laid}
use Rattle.build.proofs.put_byte.Goals as goal

pub returns : goal.returns
returns c =
    let put = c.put_bits in
    let ones = c.put_ones-p in
    let a = c.args in
    let repeated : List Bool = replicate a.delay true in (
      search rules,
      put.ensures.1
          ∙ rw (ones.ensures.0, ones.ensures.1)
          (part_laid a.out.now a.at a.delay repeated (bits 14 a.w) _ (length-replicate a.delay true) refl),
    )
