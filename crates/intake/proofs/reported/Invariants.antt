-- `intake::reported`: the pieces so far keep their form up to the one that was read last, and a piece that is not full is the last.
-- Assumes nothing.
use Rattle.std.proofs.Common.{◌+◌, ◌*◌, ◌<◌, ◌≤◌, take}
use Rattle.std.specs.Io.KnownBytes.{IsAtEnd}
use Rattle.intake.specs.Counted.{IsPrefixLen}
use Rattle.intake.proofs.Known.{Walked}
use Rattle.intake.proofs.reported.Given as goal

abbrev pub invariant-loop-piece : goal.invariant-loop-piece
invariant-loop-piece g l = record {
  within : l.n ≤ 16396;
  counted : IsPrefixLen l.n l.text;
  long : 16396 ≤ 16396 * l.piece + l.n;
  walked : Walked (g.R.Read.remaining l.fn.input) (g.R.Read.remaining l.input) (16396 * l.piece) (take l.n l.text);
  ended : l.n < 16396 → IsAtEnd (g.R.Read.remaining l.input);
}
