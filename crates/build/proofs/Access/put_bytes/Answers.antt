-- `build::Access::put_bytes` meets its contract: byte after byte. Assumes nothing.
use native.Mathlib.Omega.{arith}
use Rattle.build.proofs.Rows.{byte_room, byte_laid, all_laid}
use Rattle.build.proofs.Access.put_bytes.Goals as goal

pub put_byte-at-requires : goal.put_byte-at-requires
put_byte-at-requires g c =
    byte_room _ _ _ _ _ c.loop-nth.invariant _ _ (omega (arith, c.count-nth-end.ensures.count)) c.delay.ensures.0 c.word.ensures c.requires

pub loop-nth-preserved : goal.loop-nth-preserved
loop-nth-preserved g c =
    byte_laid _ _ _ _ _ c.loop-nth.invariant _ _ (omega (arith, c.count-nth-end.ensures.count)) c.delay.ensures.0 c.word.ensures
    c.put_byte-at.ensures

pub returns : goal.returns
returns g c = all_laid _ _ _ _ _ c.loop-nth.invariant (omega (arith, c.count-nth-end.ensures.count))
