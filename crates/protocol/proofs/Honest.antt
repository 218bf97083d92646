-- The chain's own account holds no breach: of 2, 8, 12, 14, 19 and 20 none occurs in it, and `mute` only where a slave waits (proofs/Waits). Assumes
-- nothing.
use mathlib.Core.Path.{◌≡◌, refl}
use mathlib.Core.Bool.{Bool, true, false, ◌&&◌, ◌||◌, beq}
use mathlib.Core.List.{List, [], ◌∷◌}
use mathlib.Core.Option.{Option, none, some}
use Prim.Native.Nat.{ℕ, zero, suc}
use lib.Dec.{ltb}
use Rattle.protocol.specs.Limits.{header_columns, lock_last}
use Rattle.protocol.specs.Bits.{push}
use Rattle.protocol.specs.Rest.{Timed, judge}
use Rattle.protocol.specs.Division.{data_bits, fits, byte_of}
use Rattle.protocol.specs.Header.{Header, wrong, access, command, header}
use Rattle.protocol.specs.Memory.{Memory, allows}
use Rattle.protocol.specs.Entries.{Kind, is, Event, event, Place, onward}
use Rattle.protocol.specs.Slave.{Slave}
use Rattle.protocol.specs.Chain.{column, memories}
use Rattle.protocol.specs.Account.{Phase, deaf, locks, head, ask_r, ask_w, byte_s, carries, ask_p, acknowledge, ask_ex, Told, slave_at, delay_at, more_at, headed, asked, tell, begun, step, along}
use Rattle.laws.proofs.Every.{Every, IfAny, either}
use Rattle.protocol.proofs.Machine.{says_so, every_note}

-- The kinds that only a damaged row shows.
abbrev pub breaches : List Kind
breaches = Kind.lockodd ∷ Kind.odd ∷ Kind.readbad ∷ Kind.echo ∷ Kind.ackodd ∷ Kind.forced ∷ []

-- The event is of one of these kinds.
abbrev pub among : List Kind → Event → Bool
among [] e = false
among (k ∷ ks) e = is k e || among ks e

-- An event is sound if it is none of them.
abbrev pub Sound : Event → Type 0
Sound e = among breaches e ≡ false

-- What a column tells is sound.
abbrev Fair : Told → Type 0
Fair t = IfAny Sound t.says

fair_headed : (h : Header) → Fair (headed h)
unfolding headed
fair_headed wrong = refl
fair_headed (access id address) = tt
fair_headed (command ids cmd) = refl

fair_asked : (o : Option Memory) (id address : ℕ) (w : Bool) → Fair (asked o id address w)
unfolding asked
fair_asked none id address w = refl
fair_asked (some k) id address w = either Fair (allows k w address) tt refl

fair_tell : (ks : List Memory) (p : Phase) (m : Bool) → Fair (tell ks p m)
unfolding tell
fair_tell ks deaf m = tt
fair_tell ks (locks column so_far) m = either Fair (ltb column lock_last) tt refl
fair_tell ks (head column so_far) m = either Fair (ltb column header_columns) tt (fair_headed (header (push so_far m)))
fair_tell ks (ask_r id address) m = tt
fair_tell ks (ask_w id address r) m = either Fair (beq r m) refl (fair_asked (slave_at ks id) id address m)
fair_tell ks (byte_s write id address nth unconfirmed) false = either Fair (ltb 0 unconfirmed) refl tt
fair_tell ks (byte_s write id address nth unconfirmed) true = either Fair (ltb unconfirmed (delay_at (slave_at ks id) write nth)) tt tt
fair_tell ks (carries write id address nth (suc left) so_far) m = tt
fair_tell ks (carries false id address nth zero so_far) m = refl
fair_tell ks (carries true id address nth zero so_far) m =
    either (λ k. Sound (event k id address (byte_of (push so_far m)))) (fits data_bits (push so_far m)) refl refl
fair_tell ks (ask_p write good id address nth) m = either Fair (good && more_at (slave_at ks id) write address nth) tt refl
fair_tell ks (acknowledge zero ids cmd) false = tt
fair_tell ks (acknowledge zero ids cmd) true = tt
fair_tell ks (acknowledge (suc column) ids cmd) m = tt
fair_tell ks (ask_ex ids cmd) m = either (λ k. Sound (event k cmd 0 ids)) m refl refl

pub fair_along : (ss : List Slave) (s : Timed Phase) (p : Place) (row : List Bool) → Every (λ e. Sound e.event) (along ss s p row)
unfolding along step
fair_along ss s p [] = tt
fair_along ss s p (m ∷ row) =
    every_note (λ e. Sound e.event) p (step (memories ss) s m).says
    (along (column ss m).slaves (step (memories ss) s m).state (onward (step (memories ss) s m).state p) row)
    (says_so (IfAny Sound) (λ q. tell (memories ss) q m) tt refl (λ q. fair_tell (memories ss) q m) (judge begun s m))
    (fair_along (column ss m).slaves (step (memories ss) s m).state (onward (step (memories ss) s m).state p) row)
