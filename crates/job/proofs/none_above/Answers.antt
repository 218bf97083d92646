-- `job::none_above` meets its contract. Assumes nothing.
use mathlib.Core.Path.{sym, ◌∙◌}
use Rattle.job.proofs.Bits.{one_byte, no_byte}
use Rattle.job.proofs.none_above.Goals as goal

pub loop-byte-preserved : goal.loop-byte-preserved
loop-byte-preserved c =
    let l = c.loop-byte in one_byte _ _ l.byte-index l.good c.loop-byte-test.true ∙ l.invariant

pub returns : goal.returns
returns c = let l = c.loop-byte in sym (no_byte _ _ l.byte-index l.good c.loop-byte-test.false) ∙ l.invariant
