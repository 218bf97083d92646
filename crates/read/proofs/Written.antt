-- Of all kinds only `written` chooses a bank. Assumes nothing.
use mathlib.Core.Path.{◌≡◌, refl}
use mathlib.Core.Bool.{false}
use lib.Dec.{eqb}
use Rattle.protocol.specs.Entries as protocol
use Rattle.protocol.specs.Entries.{number}
use Rattle.kinds.specs.Kinds.{kind_by}
use Rattle.kinds.specs.declared.Kind.{Kind}
use Rattle.kinds.specs.declared.Kind.TheVariants as Kinds

pub not_written : (k : Kind) → (k ≡ Kinds.Written → ⊥) → eqb (number (kind_by k)) (number protocol.written) ≡ false
not_written Kinds.Lock h = refl
not_written Kinds.Lockodd h = refl
not_written Kinds.Badhead h = refl
not_written Kinds.Command h = refl
not_written Kinds.Pair h = refl
not_written Kinds.Absent h = refl
not_written Kinds.Refused h = refl
not_written Kinds.Odd h = refl
not_written Kinds.Mute h = refl
not_written Kinds.Read h = refl
not_written Kinds.Written h = absurd (h refl)
not_written Kinds.Readbad h = refl
not_written Kinds.Writebad h = refl
not_written Kinds.Echo h = refl
not_written Kinds.End h = refl
not_written Kinds.Closed h = refl
not_written Kinds.Executed h = refl
not_written Kinds.Withheld h = refl
not_written Kinds.Ackodd h = refl
not_written Kinds.Forced h = refl
