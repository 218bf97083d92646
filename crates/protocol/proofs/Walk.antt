-- The account without a chain: the memories before a column are those that the entries so far leave. In a row that brings no fourteenth
-- zero it goes by its phases alone. Assumes nothing.
use mathlib.Core.Path.{◌≡◌, refl, ap}
use mathlib.Core.Bool.{Bool, true, false, false≢true}
use mathlib.Core.List.{List, [], ◌∷◌}
use mathlib.Core.Option.{Option}
use Prim.Native.Nat.{ℕ, ◌+◌}
use lib.Dec.{ltb}
use Rattle.protocol.specs.Limits.{rest_zeros}
use Rattle.protocol.specs.Rest.{Timed, frame, power_on, timer, judge}
use Rattle.protocol.specs.Memory.{Memory}
use Rattle.protocol.specs.Entries.{Event, Place, opened, onward, Entry, note}
use Rattle.protocol.specs.Slave
use Rattle.protocol.specs.Reader
use Rattle.protocol.specs.Account.{Phase, Told, Step, tell, step, along, entries_along}
use Rattle.laws.proofs.Every.{tested}
use Rattle.protocol.proofs.Memories.{Bytes}
use Rattle.protocol.proofs.Dress.{dress, memories_dress, switched_on_dress}
use Rattle.protocol.proofs.Sim.{Together, waiting, kept, Next}
use Rattle.protocol.proofs.Whole.{move}
use Rattle.protocol.proofs.Zeros.{calm, trailing}

-- What a row makes of the account: its entries, the memories that they leave, and where it stands then.
pub record Walk (S : Type 0) : Type 0 where
  pub told : List Entry
  pub left : List Memory
  pub state : S

-- A column's entry, if it has one, before what follows.
abbrev pub noted : {S : Type 0} → Place → Option Event → Walk S → Walk S
noted p o w = record { told = note p o w.told; left = w.left; state = w.state }

unfoldable pub walk : List Memory → Timed Phase → Place → List Bool → Walk (Timed Phase)
walk ks s p [] = record { told = []; left = ks; state = s }
walk ks s p (m ∷ ms) =
    let t : Step = step ks s m in noted p t.says (walk (kept ks t.says) t.state (onward t.state p) ms)

-- The same by the phases alone, where no column is the fourteenth zero.
unfoldable pub phases : List Memory → Phase → Place → List Bool → Walk Phase
phases ks q p [] = record { told = []; left = ks; state = q }
phases ks q p (m ∷ ms) =
    let t : Told = tell ks q m in noted p t.says (phases (kept ks t.says) t.next (onward (frame 0 t.next) p) ms)

-- Along a chain, from any three that go together ..
along_walk : (row : List Bool) (ks : List Memory) → Bytes ks
    → {a : Timed Phase} {f : ℕ → Timed Slave.Phase} {r : Timed Reader.Phase} → Together ks a f r → (p : Place)
    → along (dress f 0 ks) a p row ≡ (walk ks a p row).told
unfolding along walk
along_walk [] ks bs s p = refl
along_walk (m ∷ row) ks bs {a} {f} {r} s p =
    let n : Next ks f m (step ks a m) (λ x. Reader.step r m x) = move ks bs s m in
    rw (memories_dress f 0 ks, n.passes) (ap (note p (step ks a m).says) (along_walk row _ n.bytes n.onward (onward (step ks a m).state p)))

-- .. and so from power-on.
pub account_walk : (ks : List Memory) (row : List Bool) → Bytes ks → entries_along ks row ≡ (walk ks power_on (opened 0) row).told
unfolding entries_along
account_walk ks row bs = rw (switched_on_dress 0 ks) (along_walk row ks bs (waiting 0) (opened 0))

-- In a frame, with z zeros counted.
abbrev pub timed : ℕ → Walk Phase → Walk (Timed Phase)
timed z w = record { told = w.told; left = w.left; state = frame z w.state }

pub walk_phases : (ks : List Memory) (q : Phase) (z : ℕ) (p : Place) (row : List Bool) → calm z row ≡ true
    → walk ks (frame z q) p row ≡ timed (trailing z row) (phases ks q p row)
unfolding walk phases calm trailing step judge timer
walk_phases ks q z p [] h = refl
walk_phases ks q z p (true ∷ row) h = ap (noted p (tell ks q true).says) (walk_phases (kept ks (tell ks q true).says) (tell ks q true).next 0 (onward (frame 0 q) p) row h)
walk_phases ks q z p (false ∷ row) h =
    tested (ltb (z + 1) rest_zeros)
    (λ t. rw t (ap (noted p (tell ks q false).says) (walk_phases (kept ks (tell ks q false).says) (tell ks q false).next (z + 1) (onward (frame 0 q) p) row (rw t at h))))
    (λ t. absurd (false≢true (rw t at h)))
