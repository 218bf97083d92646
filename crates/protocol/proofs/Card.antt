-- The bench card holds: one theorem over its fifteen cases, by computation. And which slave its nine locks number. Assumes nothing.
use mathlib.Core.Path.{◌≡◌, refl}
use mathlib.Core.List.{[], ◌∷◌, ◌++◌, map}
use mathlib.Core.Option.{Option, none, some}
use Prim.Native.Nat.{ℕ, ◌+◌}
use lib.ListN.{replicate}
use Rattle.protocol.specs.Limits.{id_count, lock_last}
use Rattle.protocol.specs.Bits.{bit, push}
use Rattle.protocol.specs.Rest.{Timed, frame, judge, timer}
use Rattle.protocol.specs.Division.{divide_bit, divide, remainder, check}
use Rattle.protocol.specs.Banks.{learnt, bank_of, banked}
use Rattle.protocol.specs.Card.{lock_row, blank, found, card}
use Rattle.protocol.specs.Slave
use Rattle.protocol.specs.Chain
use Rattle.protocol.specs.Reader
use Rattle.laws.proofs.Table.{tabulate}

pub card_holds : map (λ l. found l.question) card ≡ map (λ l. l.value ∷ []) card
unfolding found check remainder divide divide_bit bit push judge timer Slave.lock Slave.speak Slave.step Chain.pass Chain.answers Chain.switched_on Chain.answers_from Reader.seen Reader.locked Reader.look Reader.step Reader.columns Reader.entries Reader.entries_from Reader.list_from banked learnt bank_of
card_holds = refl

-- A slave after the card's lock row: nine zeros after S, at the header's next column, with or without a number.
after_locks : Option ℕ → Timed Slave.Phase
after_locks number = frame lock_last (Slave.head (lock_last + 1) 0 number)

-- Locks: "So the far slave is ID 0, and slaves past the eighth have none": nine slaves, far slave first.
far_slave_first : map (λ s. s.state) (Chain.after (Chain.switched_on (replicate (id_count + 1) blank)) lock_row)
    ≡ tabulate (λ i. after_locks (some i)) 0 id_count ++ after_locks none ∷ []
unfolding after_locks push judge timer Slave.lock Slave.speak Slave.step Chain.pass Chain.after Chain.switched_on
far_slave_first = refl
