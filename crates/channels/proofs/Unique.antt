-- The promise of channel_of has one result: two results that meet it are equal. Assumes nothing.
use mathlib.Core.Path.{◌≡◌}
use Prim.Native.Nat.{ℕ}
use Rattle.std.specs.Prelude.{Option, Result}
use Rattle.laws.proofs.Unique.{one_result}
use Rattle.job.specs.declared.Reason.{Reason}
use Rattle.channels.specs.Channel.{channel_of}
use Rattle.channels.specs.declared.SlaveId.{SlaveId}
use Rattle.channels.specs.declared.ChannelPlace.{ChannelPlace}

channel_of_unique : (id : SlaveId) (slaves : ℕ) (a b : Result (Option ChannelPlace) Reason) → a ≡ channel_of id slaves → b ≡ channel_of id slaves → a ≡ b
channel_of_unique id slaves a b p q = one_result p q
