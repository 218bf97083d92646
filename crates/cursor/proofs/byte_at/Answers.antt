-- `cursor::byte_at` meets its contract: the definition at the branch's test. Assumes nothing.
use Rattle.laws.proofs.Rules.{cases}
use Rattle.cursor.proofs.byte_at.Goals as goal

pub returns-then-place-ge-HEADER : goal.returns-then-place-ge-HEADER
returns-then-place-ge-HEADER c = search cases

pub returns-else-place-ge-HEADER : goal.returns-else-place-ge-HEADER
returns-else-place-ge-HEADER c = search cases
