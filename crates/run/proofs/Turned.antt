-- A chain goes column by column, every slave in each; or slave by slave, each over the whole row. It comes to the same: the bits that
-- a slave sees are those that the slaves before it send. Assumes nothing.
use mathlib.Core.Path.{◌≡◌, refl, ap, ◌∙◌}
use mathlib.Core.Bool.{Bool, false}
use mathlib.Core.List.{List, [], ◌∷◌}
use lib.ListN.{length, replicate}
use Rattle.protocol.specs.Slave as protocol
use Rattle.protocol.specs.Chain.{pass, answers, after}
use Rattle.run.specs.Parts.{sent_by, after_by}

-- The slaves one after the other: the bits that the last of them sends, and what they are then.
unfoldable pub all_sent : List protocol.Slave → (ms bs : List Bool) → List Bool
all_sent [] ms bs = bs
all_sent (s ∷ ss) ms bs = all_sent ss ms (sent_by s ms bs)

unfoldable pub all_after : List protocol.Slave → (ms bs : List Bool) → List protocol.Slave
all_after [] ms bs = []
all_after (s ∷ ss) ms bs = after_by s ms bs ∷ all_after ss ms (sent_by s ms bs)

-- The first column of all of them.
sent_column : (ss : List protocol.Slave) (m b : Bool) (ms bs : List Bool)
    → all_sent ss (m ∷ ms) (b ∷ bs) ≡ (pass ss m b).answer ∷ all_sent (pass ss m b).slaves ms bs
unfolding all_sent sent_by pass
sent_column [] m b ms bs = refl
sent_column (s ∷ ss) m b ms bs =
    sent_column ss m (protocol.step s m b).says.sent ms (sent_by (protocol.slave_of (protocol.step s m b)) ms bs)

after_column : (ss : List protocol.Slave) (m b : Bool) (ms bs : List Bool)
    → all_after ss (m ∷ ms) (b ∷ bs) ≡ all_after (pass ss m b).slaves ms bs
unfolding all_after sent_by after_by pass
after_column [] m b ms bs = refl
after_column (s ∷ ss) m b ms bs =
    ap (λ (l : List protocol.Slave). after_by (protocol.slave_of (protocol.step s m b)) ms bs ∷ l)
    (after_column ss m (protocol.step s m b).says.sent ms (sent_by (protocol.slave_of (protocol.step s m b)) ms bs))

-- No column.
sent_none : (ss : List protocol.Slave) → all_sent ss [] [] ≡ []
unfolding all_sent sent_by
sent_none [] = refl
sent_none (s ∷ ss) = sent_none ss

after_none : (ss : List protocol.Slave) → all_after ss [] [] ≡ ss
unfolding all_after sent_by after_by
after_none [] = refl
after_none (s ∷ ss) = ap (λ (l : List protocol.Slave). s ∷ l) (after_none ss)

pub answers_turned : (ss : List protocol.Slave) (ms : List Bool) → all_sent ss ms (replicate (length ms) false) ≡ answers ss ms
unfolding answers
answers_turned ss [] = sent_none ss
answers_turned ss (m ∷ ms) =
    sent_column ss m false ms (replicate (length ms) false)
    ∙ ap (λ (l : List Bool). (pass ss m false).answer ∷ l) (answers_turned (pass ss m false).slaves ms)

pub after_turned : (ss : List protocol.Slave) (ms : List Bool) → all_after ss ms (replicate (length ms) false) ≡ after ss ms
unfolding after
after_turned ss [] = after_none ss
after_turned ss (m ∷ ms) =
    after_column ss m false ms (replicate (length ms) false) ∙ after_turned (pass ss m false).slaves ms
