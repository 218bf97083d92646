-- `build::put_ones` meets its contract. Assumes nothing.
use mathlib.Core.Path.{refl}
use Rattle.build.proofs.Columns.{ones_laid}
use Rattle.build.proofs.put_ones.Goals as goal

pub returns : goal.returns
returns c = (refl, rw (c.fill.ensures.after (λ y same. same)) (ones_laid c.args.out.now c.args.at c.args.n c.requires))
