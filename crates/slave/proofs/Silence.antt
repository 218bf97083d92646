-- A slave with nothing to say: a column only counts for it, and it passes on the bit that it sees. Assumes nothing.
use mathlib.Core.Path.{◌≡◌, refl}
use mathlib.Core.Bool.{Bool, true, false, false≢true}
use mathlib.Core.Logic.{◌≢◌}
use mathlib.Core.Option.{none, some}
use Prim.Native.Nat.{ℕ}
use Rattle.protocol.specs.Rest.{Timed, power, rest, frame, timer, judge}
use Rattle.protocol.specs.Memory.{Memory}
use Rattle.protocol.specs.Slave as protocol
use Rattle.protocol.specs.Slave.{deaf, locks, head, ask_r, ask_w, byte_s, sends, takes, ask_p, acknowledge, ask_ex}
use Rattle.laws.proofs.Every.{looked_up}
use Rattle.protocol.proofs.Dress.{step_to}
use Rattle.slave.specs.Code.{state_by, heard_by, says_nothing}
use Rattle.slave.specs.declared.phase.Phase.{Phase}
use Rattle.slave.specs.declared.Form.{Form}
use Rattle.slave.specs.declared.Form.TheVariants.{Power, Rest, Frame}

-- The states in which it has nothing to say: power-on, rest, deaf.
pub passes_on : (k : Memory) (s : Timed protocol.Phase) (m b : Bool) → says_nothing s ≡ true → protocol.step (protocol.slave k s) m b ≡ step_to k (heard_by s m) b
unfolding protocol.step protocol.speak judge heard_by
passes_on k (power z) m b e = looked_up (timer z m) (λ q. rw q) (λ z' q. rw q)
passes_on k rest true b e = refl
passes_on k rest false b e = refl
passes_on k (frame z deaf) m b e = looked_up (timer z m) (λ q. rw q) (λ z' q. rw q)
passes_on k (frame z (locks column so_far number)) m b e = absurd (false≢true e)
passes_on k (frame z (head column so_far number)) m b e = absurd (false≢true e)
passes_on k (frame z (ask_r address)) m b e = absurd (false≢true e)
passes_on k (frame z (ask_w address r)) m b e = absurd (false≢true e)
passes_on k (frame z (byte_s write address nth unconfirmed)) m b e = absurd (false≢true e)
passes_on k (frame z (sends address nth left w)) m b e = absurd (false≢true e)
passes_on k (frame z (takes address nth left so_far)) m b e = absurd (false≢true e)
passes_on k (frame z (ask_p write good address nth)) m b e = absurd (false≢true e)
passes_on k (frame z (acknowledge column ids cmd number)) m b e = absurd (false≢true e)
passes_on k (frame z (ask_ex cmd concerned)) m b e = absurd (false≢true e)

-- A column that is not at rest counts a zero, or is the fourteenth.
pub other_counts : (f : Form) (z : ℕ) (p : Phase) (m : Bool) {z' : ℕ} → f ≢ Rest → some z' ≡ timer z m
    → state_by f z' p ≡ heard_by (state_by f z p) m
unfolding heard_by judge
other_counts Power z p m h e = rw (← e) refl
other_counts Rest z p m h e = absurd (h refl)
other_counts Frame z p m h e = rw (← e) refl

pub other_rests : (f : Form) (z : ℕ) (p : Phase) (m : Bool) → f ≢ Rest → none ≡ timer z m → rest ≡ heard_by (state_by f z p) m
unfolding heard_by judge
other_rests Power z p m h e = rw (← e) refl
other_rests Rest z p m h e = absurd (h refl)
other_rests Frame z p m h e = rw (← e) refl
