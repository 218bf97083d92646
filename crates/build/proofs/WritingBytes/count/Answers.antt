-- `build::Writing::count` meets its contract: a byte's word has twelve bits. Assumes nothing.
use Rattle.build.proofs.Rows.{writes_twelve}
use Rattle.build.proofs.WritingBytes.count.Goals as goal

pub returns-clause-each : goal.returns-clause-each
returns-clause-each c = writes_twelve c.args.self.0.now
