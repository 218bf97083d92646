-- `cursor::stop_in` meets its contract: a walk with few bytes before it. Assumes nothing.
use Rattle.cursor.proofs.Lines.{stop_far}
use Rattle.cursor.proofs.stop_in.Goals as goal

pub returns-else-place-lt-HEADER : goal.returns-else-place-lt-HEADER
returns-else-place-lt-HEADER c = stop_far _ _ _ c.if-place-lt-HEADER.false c.walk-else-place-lt-HEADER.ensures
