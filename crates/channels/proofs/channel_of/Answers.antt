-- `channels::channel_of` meets its contract: each result is the definition at the branch's tests.
-- Assumes nothing.
use Rattle.laws.proofs.Rules.{cases}
use Rattle.channels.specs.Channel.{channel_of}
use Rattle.channels.proofs.channel_of.Goals as goal

pub returns-then-slaves-gt-SLAVES : goal.returns-then-slaves-gt-SLAVES
unfolding channel_of
returns-then-slaves-gt-SLAVES c = search cases

pub returns-then-i-gt-LAST_ID : goal.returns-then-i-gt-LAST_ID
unfolding channel_of
returns-then-i-gt-LAST_ID c = search cases

pub returns-then-i-slaves : goal.returns-then-i-slaves
unfolding channel_of
returns-then-i-slaves c = search cases

pub returns-else-i-slaves : goal.returns-else-i-slaves
unfolding channel_of
returns-else-i-slaves c = search cases
