-- Turns: what has to be shown of a branch of a phase that neither stores nor executes, and of a column by the zeros counted. Assumes
-- nothing.
use mathlib.Core.Path.{◌≡◌, refl, sym}
use mathlib.Core.Bool.{Bool, true}
use mathlib.Core.Option.{none, some}
use mathlib.Core.Logic.{◌≢◌}
use Rattle.std.specs.Bool.{then_some}
use Prim.Native.Nat.{ℕ}
use borrow.Author.Tests.{ltb-true, ltb-false}
use lib.Dec.{ltb}
use Rattle.protocol.specs.Limits.{rest_zeros}
use Rattle.protocol.specs.Rest.{rest, frame, timer, judge}
use Rattle.protocol.specs.Memory.{Memory}
use Rattle.protocol.specs.Slave as protocol
use Rattle.laws.proofs.Every.{tested}
use Rattle.machine.specs.Zeros.{zeros_after}
use Rattle.machine.proofs.Zeros.{timer_on, timer_out}
use Rattle.slave.proofs.Silence.{passes_on}
use Rattle.slave.specs.Code.{option_of, phase_of, address_by, state_by, state_of, says_nothing, heard_by, passed_on, said, SeenIn, Spoken, Meets, Stepped, Steps}
use Rattle.slave.specs.declared.phase.Phase.{Phase}
use Rattle.slave.specs.declared.Slave.{Slave}
use Rattle.slave.specs.declared.Form.{Form}
use Rattle.slave.specs.declared.Form.TheVariants.{Power, Rest, Frame}
use Rattle.slave.specs.declared.Seen.{Seen}
use Rattle.slave.specs.declared.Reply.{Reply}

pub quiet : {phase next : Phase} {seen : Seen} {sent : Bool} {r : Phase × Reply} → r ≡ said next sent
    → ((k : Memory) → SeenIn k (address_by phase) seen
    → protocol.speak k (phase_of phase) seen.master seen.far ≡ protocol.turn (phase_of next) sent k)
    → Meets phase seen r
quiet e law = record { over = λ k s. rw e (law k s); unstored = λ none. rw e refl }

-- The zeros counted, as protocol's timer has them.
pub timer_is : (z : ℕ) (m : Bool) {z' : ℕ} → z' ≡ zeros_after z m → option_of (then_some (ltb z' rest_zeros) z') ≡ timer z m
timer_is z m {z'} e =
    tested (ltb z' rest_zeros) (λ q. rw q (sym (timer_on z m e (ltb-true _ _ q)))) (λ q. rw q (sym (timer_out z m e (ltb-false _ _ q))))

-- A column of a slave that is in no frame; one of a frame; and the fourteenth zero of a frame.
unframed : (f : Form) (z : ℕ) (p : Phase) → f ≢ Frame → says_nothing (state_by f z p) ≡ true
unframed Power z p h = refl
unframed Rest z p h = refl
unframed Frame z p h = absurd (h refl)

-- A column of a frame, whatever the reply stores where no register is looked at.
module _ (s s' : Slave) (seen : Seen) (framed : s.form ≡ Frame) where
  pub steps_on : {z : ℕ} (p : Phase) (reply : Reply) → state_of s' ≡ frame z (phase_of p) → some z ≡ timer s.zeros seen.master
      → Spoken s.phase seen (p, reply) → Stepped s seen (s', reply)
  unfolding protocol.step judge
  steps_on p reply to e spoken k there = rw (to, framed, ← e, spoken k (rw framed at there)) refl

module _ (s s' : Slave) (seen : Seen) {reply : Reply} where
  pub steps_unframed : s.form ≢ Frame → state_of s' ≡ heard_by (state_of s) seen.master → reply ≡ passed_on seen.far → Steps s seen (s', reply)
  steps_unframed h e f =
      record {
        over = λ k there. rw (f, e) (passes_on k (state_of s) seen.master seen.far (unframed s.form s.zeros s.phase h));
        unstored = λ none. rw f refl;
      }

  module _ (framed : s.form ≡ Frame) where
    pub steps_on_unstored : {z : ℕ} {p : Phase} → state_of s' ≡ frame z (phase_of p) → some z ≡ timer s.zeros seen.master → Meets s.phase seen (p, reply)
        → Steps s seen (s', reply)
    steps_on_unstored to e meets = record { over = steps_on s s' seen framed _ _ to e meets.over; unstored = λ none. meets.unstored (rw framed at none) }

    pub steps_end : state_of s' ≡ rest → none ≡ timer s.zeros seen.master → reply ≡ passed_on seen.far → Steps s seen (s', reply)
    unfolding protocol.step judge
    steps_end to e f = record { over = λ k there. rw (to, framed, ← e, f) refl; unstored = λ none. rw f refl }
