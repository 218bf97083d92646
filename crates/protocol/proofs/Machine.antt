-- What holds of every machine behind the timer, whatever its phases are: a zero brings it nearer to rest, out of a frame it is silent, what
-- its phases say it says, and what they keep it keeps. Assumes nothing.
use mathlib.Core.Path.{◌≡◌, refl, sym}
use mathlib.Core.Bool.{Bool, true, false, false≢true}
use mathlib.Core.List.{List}
use mathlib.Core.Option.{Option, none, some}
use Prim.Native.Nat.{ℕ, suc}
use Rattle.protocol.specs.Rest.{Timed, power, rest, frame, framed, Judged, still, ends, meant, timer, judge}
use Rattle.protocol.specs.Machine.{Turn, stepped}
use Rattle.protocol.specs.Entries.{Event, Place, Entry, note}
use Rattle.laws.proofs.Every.{Every, IfAny, looked_up}
use Rattle.protocol.proofs.Rest.{moved, Soon, soon_moved}

module _ {P S : Type 0} (begun : P) (silent ended : S) (turn : P → Turn P S) where
  moves : (j : Judged P) → (stepped silent ended turn j).state ≡ moved (λ p. (turn p).next) j
  moves (still s) = refl
  moves ends = refl
  moves (meant z p) = refl

  -- A zero brings it one nearer to rest.
  pub soon_step : (s : Timed P) (n : ℕ) → Soon begun (suc n) s → Soon begun n (stepped silent ended turn (judge begun s false)).state
  soon_step s n h = rw (moves (judge begun s false)) (soon_moved begun _ s n h)

  -- Out of a frame it is silent.
  pub silent_outside : (s : Timed P) (m : Bool) → framed s ≡ false → (stepped silent ended turn (judge begun s m)).says ≡ silent
  unfolding judge
  silent_outside (power z) m h = looked_up (timer z m) (λ q. rw q) (λ z' q. rw q)
  silent_outside rest false h = refl
  silent_outside rest true h = refl
  silent_outside (frame z p) m h = absurd (false≢true (sym h))

-- What holds of all that its phases say, holds of all that it says.
pub says_so : {P S : Type 0} (Q : S → Type 0) (turn : P → Turn P S) {silent ended : S} → Q silent → Q ended → ((p : P) → Q (turn p).says)
    → (j : Judged P) → Q (stepped silent ended turn j).says
says_so Q turn quiet end each (still s) = quiet
says_so Q turn quiet end each ends = end
says_so Q turn quiet end each (meant z p) = each p

module _ {P : Type 0} (H : P → Type 0) where
  -- H holds of its phase, where it is in a frame.
  abbrev pub At : Timed P → Type 0
  At (power z) = Unit {0}
  At rest = Unit {0}
  At (frame z p) = H p

  module _ {begun : P} (b : H begun) where
    -- By the ways in which a column is judged: H holds of the phase that stays, and of the phase that has its turn.
    pub judged : (C : Judged P → Type 0) → ((s : Timed P) → At s → C (still s)) → C ends → ((z : ℕ) (p : P) → H p → C (meant z p))
        → (s : Timed P) (m : Bool) → At s → C (judge begun s m)
    unfolding judge
    judged C stays end turns (power z) m h =
        looked_up (timer z m) (λ q. rw q (stays rest tt)) (λ z' q. rw q (stays (power z') tt))
    judged C stays end turns rest false h = stays rest tt
    judged C stays end turns rest true h = stays (frame 0 begun) b
    judged C stays end turns (frame z p) m h = looked_up (timer z m) (λ q. rw q end) (λ z' q. rw q (turns z' p h))

    -- What each phase keeps, the machine keeps.
    pub keeps : {S : Type 0} (Q : S → Type 0) {silent ended : S} {turn : P → Turn P S} → Q silent → Q ended
        → ((p : P) → H p → H (turn p).next × Q (turn p).says) → (s : Timed P) (m : Bool) → At s
        → At (stepped silent ended turn (judge begun s m)).state × Q (stepped silent ended turn (judge begun s m)).says
    keeps Q {silent} {ended} {turn} quiet end each =
        judged (λ j. At (stepped silent ended turn j).state × Q (stepped silent ended turn j).says)
        (λ s h. (h, quiet)) (tt, end) (λ z p h. each p h)

module _ (Q : Entry → Type 0) (p : Place) where
  -- A column's entry, if it has one, before the others.
  pub every_note : (o : Option Event) (es : List Entry) → IfAny (λ e. Q (record { place = p; event = e })) o → Every Q es
      → Every Q (note p o es)
  every_note none es q qs = qs
  every_note (some e) es q qs = (q, qs)
