-- Power-on, rest and the fourteenth zero: what a column is for every machine, before its own meaning.
-- Slave, Reader and Account each put their phases into Timed, and see a column only as judge hands it over.
use Rattle.std.specs.Prelude.{Bool, true, false, cond, ℕ, ◌+◌, ltb}
use Rattle.std.proofs.Math.Option.{Option, none, some}
use Rattle.protocol.specs.Limits.{rest_zeros}

-- A machine is at power-on, at rest or in a frame; where zeros count, the number says how many in a row it saw just now.
pub data Timed (P : Type 0) : Type 0 where
  power : ℕ → Timed P
  rest : Timed P
  frame : ℕ → P → Timed P

-- A frame was begun and has not ended.
abbrev pub framed : {P : Type 0} → Timed P → Bool
framed (power z) = false
framed rest = false
framed (frame z p) = true

-- Rest: "At power-on nobody is at rest".
abbrev pub power_on : {P : Type 0} → Timed P
power_on = power 0

-- Rest: "Fourteen CDM zeros in a row": the zeros in a row after one column more, or none if that was the fourteenth.
unfoldable pub timer : ℕ → Bool → Option ℕ
timer z true = some 0
timer z false = cond (ltb (z + 1) rest_zeros) (some (z + 1)) none

-- Rest: "The fourteenth zero is judged before any other meaning of its column".
pub data Judged (P : Type 0) : Type 0 where
  still : Timed P → Judged P  -- the column means nothing to a phase: power-on, rest, or S
  ends : Judged P  -- the fourteenth zero after a frame was begun
  meant : ℕ → P → Judged P  -- a column of a frame: for the phase to say

-- Rest: "ones then mean nothing": at power-on the zeros alone count.
abbrev pub waiting : {P : Type 0} → Option ℕ → Judged P
waiting none = still rest
waiting (some z) = still (power z)

-- Rest: "Fourteen CDM zeros in a row end anything": in a frame too, whatever its phase.
abbrev pub running : {P : Type 0} → Option ℕ → P → Judged P
running none p = ends
running (some z) p = meant z p

-- Rest: "they stay there while zeros last". Start: "The first 1 after rest is the start bit S"; a frame's first phase is `begun`.
unfoldable pub judge : {P : Type 0} → P → Timed P → Bool → Judged P
judge begun (power z) m = waiting (timer z m)
judge begun rest false = still rest
judge begun rest true = still (frame 0 begun)
judge begun (frame z p) m = running (timer z m) p
