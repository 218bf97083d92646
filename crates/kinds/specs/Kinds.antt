-- Which numbers are kinds, and which kind, for the contracts of the code: the table itself is protocol's (specs/Entries).
use Rattle.std.specs.Prelude.{◌≡◌, Bool, true, false, ℕ, Result, MatchResult}
use Rattle.std.proofs.Math.Option.{Option, none, some}
use Rattle.protocol.specs.Entries as entries
use Rattle.protocol.specs.Entries.{Kind, end, number, kinds, numbered}
use Rattle.kinds.specs.declared.Kind as Code
use Rattle.kinds.specs.declared.Kind.TheVariants as Kinds
use Rattle.kinds.specs.declared.NotAKind.{NotAKind}

-- A number is some kind's.
abbrev pub is_one : Option Kind → Bool
is_one none = false
is_one (some k) = true

-- Refusal 12: "a kind outside" the table; Request 07: "12 admits the new kinds".
unfoldable pub is_kind : ℕ → Bool
is_kind n = is_one (numbered n kinds)

-- A kind; `end` where there is none, which is so of no entry of a list.
abbrev pub kind_or : Option Kind → Kind
kind_or none = end
kind_or (some k) = k

-- The kind of a number.
abbrev pub kind_of : ℕ → Kind
kind_of n = kind_or (numbered n kinds)

-- The table's kind that a kind of the code is ..
abbrev pub kind_by : Code.Kind → Kind
kind_by Kinds.Lock = entries.lock
kind_by Kinds.Lockodd = entries.lockodd
kind_by Kinds.Badhead = entries.badhead
kind_by Kinds.Command = entries.command
kind_by Kinds.Pair = entries.pair
kind_by Kinds.Absent = entries.absent
kind_by Kinds.Refused = entries.refused
kind_by Kinds.Odd = entries.odd
kind_by Kinds.Mute = entries.mute
kind_by Kinds.Read = entries.read
kind_by Kinds.Written = entries.written
kind_by Kinds.Readbad = entries.readbad
kind_by Kinds.Writebad = entries.writebad
kind_by Kinds.Echo = entries.echo
kind_by Kinds.End = entries.end
kind_by Kinds.Closed = entries.closed
kind_by Kinds.Executed = entries.executed
kind_by Kinds.Withheld = entries.withheld
kind_by Kinds.Ackodd = entries.ackodd
kind_by Kinds.Forced = entries.forced

-- .. and the kind of a number, where it is one.
abbrev pub Numbers : ℕ → Result Code.Kind NotAKind → Type 0
Numbers n r = MatchResult r (λ k. number (kind_by k) ≡ n) (λ e. is_kind n ≡ false)
