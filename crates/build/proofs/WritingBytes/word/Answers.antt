-- `build::Writing::word` meets its contract: S, the byte's word and P. Assumes nothing.
use mathlib.Core.List.{[]}
use lib.ListN.{length-map}
use Rattle.std.proofs.lemmas.List.{get_or-map}
use Rattle.protocol.specs.Building.{write_bits}
use Rattle.build.proofs.WritingBytes.word.Goals as goal

pub returns : goal.returns
returns c = rw (get_or-map write_bits c.args.self.0.now c.args.nth 0 [] (rw length-map at c.requires)) c.written.ensures
