-- `list_text::put_lines` meets its contract: the lines one after another. Assumes nothing.
use native.Mathlib.Omega.{arith}
use Rattle.list_text.proofs.Parts.{left_all, left_behind, left_none}
use Rattle.list_text.proofs.Lists.{lines_more, lines_length, lines_none}
use Rattle.list_text.proofs.put_lines.Goals as goal

pub loop-e-init : goal.loop-e-init
loop-e-init c = rw c.into_iter-e-iterator.ensures.into_iter_gives (left_all c.requires)

pub put_line-p-requires : goal.put_line-p-requires
put_line-p-requires c = omega (arith, c.loop-e.invariant.fits, lines_length c.in-Some.ensures.steps)

pub loop-e-preserved : goal.loop-e-preserved
loop-e-preserved c = left_behind _ (rw (lines_more c.in-Some.ensures.steps) at c.loop-e.invariant) c.put_line-p.ensures

pub returns : goal.returns
returns c = left_none (lines_none c.in-None.ensures.steps.0) c.loop-e.invariant
