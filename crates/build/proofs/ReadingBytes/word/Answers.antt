-- `build::Reading::word` meets its contract: S and zeros. Assumes nothing.
use lib.ListN.{length-replicate}
use Rattle.build.proofs.Rows.{read_word}
use Rattle.build.proofs.ReadingBytes.word.Goals as goal

pub returns : goal.returns
returns c = read_word _ _ (rw length-replicate at c.requires)
