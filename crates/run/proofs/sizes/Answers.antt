-- `run::sizes` meets its contract: std's sum of the table. Assumes nothing.
use mathlib.Core.Path.{◌≡◌, ◌∙◌}
use borrow.Author.Rules.{rules}
use Rattle.std.specs.List.{sum_by}
use Rattle.run.specs.Run.{size_of}
use Rattle.run.proofs.Tables.{sizes_summed}
use Rattle.run.proofs.sizes.Goals as goal

pub returns : goal.returns
returns c =
    let e : c.sum.result ≡ sum_by size_of c.args.banks.now = search rules in e ∙ sizes_summed c.args.banks.now
