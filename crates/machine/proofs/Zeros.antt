-- A column whose zeros are counted: protocol's timer and its judge say the same of it, by whether it is the fourteenth zero. Assumes
-- nothing.
use mathlib.Core.Path.{◌≡◌, refl}
use mathlib.Core.Bool.{Bool, true, false}
use mathlib.Core.Option.{none, some}
use Prim.Native.Nat.{ℕ, ◌+◌, ◌≤◌, ◌<◌}
use native.Mathlib.Omega.{arith}
use borrow.Author.Tests.{lt-ltb, le-ltb}
use Rattle.protocol.specs.Limits.{rest_zeros}
use Rattle.protocol.specs.Rest.{Timed, power, rest, frame, framed, timer, judge}
use Rattle.machine.specs.Zeros.{zeros_after, timed, judged_at, ended_at}

-- By protocol's timer ..
module _ (z : ℕ) {z' : ℕ} where
  pub timer_on : (m : Bool) → z' ≡ zeros_after z m → z' < rest_zeros → timer z m ≡ some z'
  unfolding timer zeros_after
  timer_on true e h = rw e
  timer_on false e h = let next : z' ≡ z + 1 = omega arith in rw (next, lt-ltb (z + 1) rest_zeros (omega arith))

  pub timer_out : (m : Bool) → z' ≡ zeros_after z m → rest_zeros ≤ z' → timer z m ≡ none
  unfolding timer zeros_after
  timer_out true e h = absurd (omega arith)
  timer_out false e h = rw (le-ltb (z + 1) rest_zeros (omega arith))

-- .. and so by its judge, for any machine.
module _ {P : Type 0} (begun : P) (z : ℕ) {z' : ℕ} where
  pub judge_on : (s : Timed P) (m : Bool) → z' ≡ zeros_after z m → z' < rest_zeros → judge begun (timed z s) m ≡ judged_at begun (timed z' s) m
  unfolding judge
  judge_on (power _) m e h = rw (timer_on z m e h)
  judge_on rest true e h = refl
  judge_on rest false e h = refl
  judge_on (frame _ p) m e h = rw (timer_on z m e h)

  pub judge_out : (s : Timed P) (m : Bool) → z' ≡ zeros_after z m → rest_zeros ≤ z' → judge begun (timed z s) m ≡ ended_at s
  unfolding judge zeros_after
  judge_out (power _) m e h = rw (timer_out z m e h)
  judge_out rest true e h = absurd (omega arith)
  judge_out rest false e h = refl
  judge_out (frame _ p) m e h = rw (timer_out z m e h)

-- However many zeros were seen, a frame is a frame.
pub framed_timed : {P : Type 0} (z : ℕ) (s : Timed P) → framed (timed z s) ≡ framed s
framed_timed z (power _) = refl
framed_timed z rest = refl
framed_timed z (frame _ p) = refl
