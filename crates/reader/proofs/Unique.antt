-- Each promise of this crate has one result to protocol's definitions: two results that meet it are the same state at the same
-- place, and give the same event. What a field holds where it does not matter is left open, and no job shows it. Assumes nothing.
use mathlib.Core.Path.{◌≡◌, refl, sym, ap, ◌∙◌}
use mathlib.Core.Bool.{Bool}
use Rattle.std.specs.Prelude.{Option, Some, None}
use Rattle.std.proofs.Math.Option as Math
use Rattle.std.proofs.Math.Option.{none, some}
use Rattle.protocol.specs.Rest.{Timed, power_on}
use Rattle.protocol.specs.Entries as entries
use Rattle.protocol.specs.Entries.{Place}
use Rattle.protocol.specs.Reader as protocol
use Rattle.protocol.specs.Reader.{step}
use Rattle.laws.proofs.Unique.{one_result}
use Rattle.kinds.specs.Kinds.{kind_by}
use Rattle.kinds.specs.declared.Kind.{Kind}
use Rattle.kinds.specs.declared.Kind.TheVariants as Kinds
use Rattle.reader.specs.Code.{state_of, says_of, moved, after, Moved}
use Rattle.reader.specs.declared.Event.{Event}
use Rattle.reader.specs.declared.Reader.{Reader}
use Rattle.reader.specs.declared.Stepped.{Stepped}

-- Protocol's event tells the code's: its kind ..
kind_back : entries.Kind → Kind
kind_back entries.lock = Kinds.Lock
kind_back entries.lockodd = Kinds.Lockodd
kind_back entries.badhead = Kinds.Badhead
kind_back entries.command = Kinds.Command
kind_back entries.pair = Kinds.Pair
kind_back entries.absent = Kinds.Absent
kind_back entries.refused = Kinds.Refused
kind_back entries.odd = Kinds.Odd
kind_back entries.mute = Kinds.Mute
kind_back entries.read = Kinds.Read
kind_back entries.written = Kinds.Written
kind_back entries.readbad = Kinds.Readbad
kind_back entries.writebad = Kinds.Writebad
kind_back entries.echo = Kinds.Echo
kind_back entries.end = Kinds.End
kind_back entries.closed = Kinds.Closed
kind_back entries.executed = Kinds.Executed
kind_back entries.withheld = Kinds.Withheld
kind_back entries.ackodd = Kinds.Ackodd
kind_back entries.forced = Kinds.Forced

kind_there : (k : Kind) → kind_back (kind_by k) ≡ k
unfolding kind_back
kind_there Kinds.Lock = refl
kind_there Kinds.Lockodd = refl
kind_there Kinds.Badhead = refl
kind_there Kinds.Command = refl
kind_there Kinds.Pair = refl
kind_there Kinds.Absent = refl
kind_there Kinds.Refused = refl
kind_there Kinds.Odd = refl
kind_there Kinds.Mute = refl
kind_there Kinds.Read = refl
kind_there Kinds.Written = refl
kind_there Kinds.Readbad = refl
kind_there Kinds.Writebad = refl
kind_there Kinds.Echo = refl
kind_there Kinds.End = refl
kind_there Kinds.Closed = refl
kind_there Kinds.Executed = refl
kind_there Kinds.Withheld = refl
kind_there Kinds.Ackodd = refl
kind_there Kinds.Forced = refl

-- .. and the rest as it is.
says_back : Math.Option entries.Event → Option Event
says_back none = None
says_back (some e) = Some (record { kind = kind_back e.kind; id = e.id; address = e.address; value = e.value })

says_there : (o : Option Event) → says_back (says_of o) ≡ o
unfolding says_back
says_there None = refl
says_there (Some e) = rw (kind_there e.kind)

new_unique : (a b : Reader) → state_of a ≡ power_on → state_of b ≡ power_on → state_of a ≡ state_of b
new_unique a b p q = one_result p q

step_unique : (a b : Stepped) (s : Timed protocol.Phase) (p : Place) (m x : Bool) → after p.column a ≡ moved (step s m x) p
    → after p.column b ≡ moved (step s m x) p → (after p.column a ≡ after p.column b) × (a.event ≡ b.event)
unfolding after
step_unique a b s p m x g h =
    let same = one_result g h in
    (same, sym (says_there a.event) ∙ ap (λ (t : Moved). says_back t.says) same ∙ says_there b.event)
