-- What channel_of returns.
use Rattle.std.specs.Prelude.{cond, ℕ, ◌-◌, ltb, Option, Some, None, Result, Ok, Err}
use Rattle.protocol.specs.Limits.{slave_limit, id_count}
use Rattle.protocol.specs.Channels.{reversed}
use Rattle.job.specs.declared.Reason.{Reason}
use Rattle.job.specs.declared.Reason.TheVariants.{TooManySlaves, OutOfRange}
use Rattle.channels.specs.declared.SlaveId.{SlaveId}
use Rattle.channels.specs.declared.ChannelPlace.{ChannelPlace}

-- Numbers of refusal: 1, "more than 16 slaves"; 10, "id over 7". Then the reversed place, where the chain has that ID.
unfoldable pub channel_of : SlaveId → (slaves : ℕ) → Result (Option ChannelPlace) Reason
channel_of id slaves =
    cond (ltb slave_limit slaves) (Err TooManySlaves)
    (cond (ltb (id_count - 1) id.0) (Err OutOfRange)
    (cond (ltb id.0 slaves) (Ok (Some (record { 0 = reversed slaves id.0 }))) (Ok None)))
