-- Each promise of this crate has one result to protocol's definitions: two results that meet it are the same state, send the same bit and
-- leave the same registers and counts. What a field holds in a phase that does not use it is left open, and no job shows it. Assumes
-- nothing.
use mathlib.Core.Path.{◌≡◌, sym}
use mathlib.Core.Bool.{Bool}
use Rattle.protocol.specs.Rest.{power_on}
use Rattle.protocol.specs.Memory.{Memory}
use Rattle.laws.proofs.Unique.{one_result}
use Rattle.slave.specs.Code.{state_of, address_of, heard_by, says_nothing, SeenIn, step_of, Stepped}
use Rattle.slave.specs.declared.Slave.{Slave}
use Rattle.slave.specs.declared.Seen.{Seen}
use Rattle.slave.specs.declared.Reply.{Reply}

new_unique : (a b : Slave) → state_of a ≡ power_on → state_of b ≡ power_on → state_of a ≡ state_of b
new_unique a b p q = one_result p q

silent_unique : (s : Slave) (a b : Bool) → a ≡ says_nothing (state_of s) → b ≡ says_nothing (state_of s) → a ≡ b
silent_unique s a b p q = one_result p q

heard_unique : (s : Slave) (m : Bool) (a b : Slave) → state_of a ≡ heard_by (state_of s) m → state_of b ≡ heard_by (state_of s) m → state_of a ≡ state_of b
heard_unique s m a b p q = one_result p q

-- Over any memory that shows what was seen.
step_unique : (s : Slave) (seen : Seen) (a b : Slave × Reply) → Stepped s seen a → Stepped s seen b → (k : Memory) → SeenIn k (address_of s) seen
    → step_of k (address_of s) a ≡ step_of k (address_of s) b
step_unique s seen a b p q k there = one_result (sym (p k there)) (sym (q k there))
