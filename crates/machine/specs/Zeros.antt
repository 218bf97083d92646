-- A machine as its code has it: a form, and beside it the zeros in a row, which are counted before the form is looked at. Nothing here is
-- needed to read what run or read promises.
use Rattle.std.specs.Prelude.{Bool, true, false, ℕ, ◌+◌, min}
use Rattle.protocol.specs.Limits.{rest_zeros}
use Rattle.protocol.specs.Rest.{Timed, power, rest, frame, Judged, still, ends, meant}

-- The zeros in a row after one column more, fourteen at most.
unfoldable pub zeros_after : (zeros : ℕ) → (m : Bool) → ℕ
zeros_after z true = 0
zeros_after z false = min (z + 1) rest_zeros

-- A form with as many zeros in a row as it saw just now, where they count.
abbrev pub timed : {P : Type 0} → (zeros : ℕ) → Timed P → Timed P
timed z (power _) = power z
timed z rest = rest
timed z (frame _ p) = frame z p

-- What a column that is not the fourteenth zero is to a machine whose zeros are counted already; a frame's first phase is `begun` ..
abbrev pub judged_at : {P : Type 0} → P → Timed P → (m : Bool) → Judged P
judged_at begun (power z) m = still (power z)
judged_at begun rest true = still (frame 0 begun)
judged_at begun rest false = still rest
judged_at begun (frame z p) m = meant z p

-- .. and what the fourteenth is.
abbrev pub ended_at : {P : Type 0} → Timed P → Judged P
ended_at (power z) = still rest
ended_at rest = still rest
ended_at (frame z p) = ends
