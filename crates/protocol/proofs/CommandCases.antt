-- Worked commands, drawn column under column from 000's figures 33 and 34 by hand: the chain's answers, the list, and the counts that the
-- chain is left with; and recordings whose acknowledgement does not fit. They hold what no law reaches: which bit of IDS is which ID, in
-- which column an ID answers and EX stands, and the kinds of an odd acknowledgement. One theorem over each list, by computation. Assumes
-- nothing.
--
--   column   0 .. 13        14 15 16 ..     24 26   30 31 ..   38
--            zeros          S  CTS IDS      CMD     S          EX      addressed; CDS: IDL0 to IDL8 from column 15, IDA0 to IDA7 from 30
--            00000000000000 1 0 100 00000   01 0001 1 0000000  1
--            zeros          S  CTS IDS      CMD     S EX               broadcast
use mathlib.Core.Path.{◌≡◌, refl}
use mathlib.Core.List.{List, [], ◌∷◌, ◌++◌, map}
use Prim.Native.Nat.{ℕ}
use Prim.Native.String.{String}
use lib.ListN.{replicate}
use Rattle.protocol.specs.Bits.{bit, push}
use Rattle.protocol.specs.Rest.{judge, timer}
use Rattle.protocol.specs.Division.{divide_bit, divide, remainder, check, word, fits, byte_of}
use Rattle.protocol.specs.Header.{header}
use Rattle.protocol.specs.Commands.{selects, acknowledgement, execute_column}
use Rattle.protocol.specs.Memory.{Memory, chosen, place_of, allows, holds, stored, delay_by, delay, one_more, counted}
use Rattle.protocol.specs.Entries.{Kind}
use Rattle.protocol.specs.Banks.{Banked, learnt, bank_of, banked}
use Rattle.protocol.specs.Card.{blank}
use Rattle.protocol.specs.Slave
use Rattle.protocol.specs.Chain
use Rattle.protocol.specs.Reader
use Rattle.protocol.proofs.Drawn.{columns_of, drawn}
use Rattle.protocol.proofs.Cases.{entry, placed}

record Sample : Type 0 where
  chain : List Memory
  cdm : String
  cds : String
  shows : List Banked
  counts : List (List ℕ)

-- the chain, the master row, its answers, the list, and the counts by slave and code
sample : List Memory → (cdm cds : String) → List Banked → List (List ℕ) → Sample
sample chain cdm cds shows counts = record { chain = chain; cdm = cdm; cds = cds; shows = shows; counts = counts }

-- So many slaves.
slaves : ℕ → List Memory
slaves n = replicate n blank

-- The list of a command up to its header: so many slaves, CMD and IDS.
headed : (locks cmd ids : ℕ) → List Banked
headed n cmd ids = entry Kind.lock 23 0 0 n ∷ entry Kind.command 29 cmd 0 ids ∷ []

-- Nobody has counted.
none_counted : (slaves : ℕ) → List (List ℕ)
none_counted n = replicate n (0 ∷ 0 ∷ 0 ∷ 0 ∷ [])

samples : List Sample
samples =
    -- ID 0 is named by the first bit of IDS, and answers in the column of S; EX = 1, and ones behind it
    sample (slaves 1)
    "00000000000000 1 0 100 00000 01 0001 1 0000000 1 111"
    "00000000000000 0 1 000 00000 00 0000 1 0000000 0 000"
    (headed 1 1 128 ++ entry Kind.executed 38 1 0 128 ∷ []) ((0 ∷ 1 ∷ 0 ∷ 0 ∷ []) ∷ [])
    -- .. EX = 0, whatever the master sends between
    ∷ sample (slaves 1)
    "00000000000000 1 0 100 00000 01 0001 1 1011011 0 111"
    "00000000000000 0 1 000 00000 00 0000 1 0000000 0 000"
    (headed 1 1 128 ++ entry Kind.withheld 38 1 0 128 ∷ []) (none_counted 1)
    -- .. S = 0, and what would be EX
    ∷ sample (slaves 1)
    "00000000000000 1 0 100 00000 01 0001 0 1111111 1 111"
    "00000000000000 0 1 000 00000 00 0000 0 0000000 0 000"
    (headed 1 1 128) (none_counted 1)
    -- .. cut before EX
    ∷ sample (slaves 1)
    "00000000000000 1 0 100 00000 01 0001 1 0000000"
    "00000000000000 0 1 000 00000 00 0000 1 0000000"
    (headed 1 1 128) (none_counted 1)
    -- ID 1 alone of three
    ∷ sample (slaves 3)
    "00000000000000 1 0 010 00000 10 0110 1 0000000 1"
    "00000000000000 0 1 110 00000 00 0000 0 1000000 0"
    (headed 3 2 64 ++ entry Kind.executed 38 2 0 64 ∷ []) ((0 ∷ 0 ∷ 0 ∷ 0 ∷ []) ∷ (0 ∷ 0 ∷ 1 ∷ 0 ∷ []) ∷ (0 ∷ 0 ∷ 0 ∷ 0 ∷ []) ∷ [])
    -- 001: "1000 0100" names IDs 0 and 5
    ∷ sample (slaves 6)
    "00000000000000 1 0 100 00100 11 0010 1 0000000 1"
    "00000000000000 0 1 111 11000 00 0000 1 0000100 0"
    (headed 6 3 132 ++ entry Kind.executed 38 3 0 132 ∷ []) ((0 ∷ 0 ∷ 0 ∷ 1 ∷ []) ∷ none_counted 4 ++ (0 ∷ 0 ∷ 0 ∷ 1 ∷ []) ∷ [])
    -- .. of which the chain has ID 0 alone: who is not there neither answers nor counts, and the answers fit
    ∷ sample (slaves 2)
    "00000000000000 1 0 100 00100 11 0010 1 0000000 1"
    "00000000000000 0 1 100 00000 00 0000 1 0000000 0"
    (headed 2 3 132 ++ entry Kind.executed 38 3 0 132 ∷ []) ((0 ∷ 0 ∷ 0 ∷ 1 ∷ []) ∷ none_counted 1)
    -- ID 7, of ten slaves, and the last two have no number
    ∷ sample (slaves 10)
    "00000000000000 1 0 000 00001 00 0011 1 0000000 1"
    "00000000000000 0 1 111 11111 00 0000 0 0000001 0"
    (headed 9 0 1 ++ entry Kind.executed 38 0 0 1 ∷ []) (none_counted 7 ++ (1 ∷ 0 ∷ 0 ∷ 0 ∷ []) ∷ none_counted 2)
    -- a broadcast: nobody answers, and all ten count; EX = 0, and nobody does; S = 0 likewise
    ∷ sample (slaves 10)
    "00000000000000 1 0 000 00000 10 1001 1 1 11"
    "00000000000000 0 1 111 11111 00 0000 0 0 00"
    (headed 9 2 0 ++ entry Kind.executed 31 2 0 0 ∷ []) (replicate 10 (0 ∷ 0 ∷ 1 ∷ 0 ∷ []))
    ∷ sample (slaves 10)
    "00000000000000 1 0 000 00000 10 1001 1 0 11"
    "00000000000000 0 1 111 11111 00 0000 0 0 00"
    (headed 9 2 0 ++ entry Kind.withheld 31 2 0 0 ∷ []) (none_counted 10)
    ∷ sample (slaves 2)
    "00000000000000 1 0 000 00000 10 1001 0 1 11"
    "00000000000000 0 1 100 00000 00 0000 0 0 00"
    (headed 2 2 0) (none_counted 2)
    -- no slave
    ∷ sample []
    "00000000000000 1 0 100 00000 01 0001 1 0000000 1"
    "00000000000000 0 0 000 00000 00 0000 0 0000000 0"
    (headed 0 1 128 ++ entry Kind.executed 38 1 0 128 ∷ []) []
    -- withheld and given up: EX is the eighth zero, and six more are the fourteenth
    ∷ sample (slaves 1)
    "00000000000000 1 0 100 00000 01 0001 1 0000000 0 000000"
    "00000000000000 0 1 000 00000 00 0000 1 0000000 0 000000"
    (headed 1 1 128 ++ entry Kind.withheld 38 1 0 128 ∷ entry Kind.end 44 0 0 0 ∷ []) (none_counted 1)
    -- two in a row: to ID 0 of two, and a broadcast
    ∷ sample (slaves 2)
    "00000000000000 1 0 100 00000 01 0001 1 0000000 1 00000000000000 1 0 000 00000 01 1100 1 1"
    "00000000000000 0 1 100 00000 00 0000 1 0000000 0 00000000000000 0 1 100 00000 00 0000 0 0"
    (headed 2 1 128 ++ entry Kind.executed 38 1 0 128 ∷ entry Kind.end 52 0 0 0 ∷ placed Kind.lock 62 53 0 0 0 2 ∷ placed Kind.command 68 53 1 0 0 0
    ∷ placed Kind.executed 70 53 1 0 0 0 ∷ [])
    ((0 ∷ 2 ∷ 0 ∷ 0 ∷ []) ∷ (0 ∷ 1 ∷ 0 ∷ 0 ∷ []) ∷ [])
    ∷ []

answers_hold : map (λ s. Chain.answers_from s.chain (drawn s.cdm)) samples ≡ map (λ s. drawn s.cds) samples
unfolding samples sample slaves columns_of word check remainder divide divide_bit bit push fits byte_of header selects execute_column chosen place_of allows holds stored delay_by delay one_more counted judge timer Slave.lock Slave.called Slave.more Slave.speak Slave.step Chain.pass Chain.answers Chain.switched_on Chain.answers_from
answers_hold = refl

counts_hold : map (λ s. map (λ k. k.counts) (Chain.memories_after s.chain (drawn s.cdm))) samples ≡ map (λ s. s.counts) samples
unfolding samples sample slaves none_counted columns_of word check remainder divide divide_bit bit push fits byte_of header selects execute_column chosen place_of allows holds stored delay_by delay one_more counted judge timer Slave.lock Slave.called Slave.more Slave.speak Slave.step Chain.pass Chain.after Chain.switched_on Chain.memories_after
counts_hold = refl

-- The list of two drawn rows.
read_as : (cdm cds : String) → List Banked
read_as cdm cds = Reader.list_from 0 (Reader.columns (drawn cdm) (drawn cds))

lists_hold : map (λ s. read_as s.cdm s.cds) samples ≡ map (λ s. s.shows) samples
unfolding samples sample headed entry placed read_as columns_of word check remainder divide divide_bit bit push fits byte_of header selects acknowledgement execute_column judge timer Reader.seen Reader.locked Reader.headed Reader.asked Reader.look Reader.step Reader.columns Reader.entries Reader.entries_from Reader.list_from banked learnt bank_of
lists_hold = refl

record Damaged : Type 0 where
  cdm : String
  cds : String
  shows : List Banked

-- the master row, the answers as they were recorded, the list
damaged : (cdm cds : String) → List Banked → Damaged
damaged cdm cds shows = record { cdm = cdm; cds = cds; shows = shows }

recordings : List Damaged
recordings =
    -- an ID that is named and locked stays silent; EX = 1 is forced, and EX = 0 is withheld
    damaged
    "00000000000000 1 0 110 00000 10 1011 1 0000000 1 1"
    "00000000000000 0 1 100 00000 00 0000 1 0000000 0 0"
    (headed 2 2 192 ++ entry Kind.ackodd 37 2 0 128 ∷ entry Kind.forced 38 2 0 192 ∷ [])
    ∷ damaged
    "00000000000000 1 0 110 00000 10 1011 1 0000000 0 1"
    "00000000000000 0 1 100 00000 00 0000 0 1000000 0 0"
    (headed 2 2 192 ++ entry Kind.ackodd 37 2 0 64 ∷ entry Kind.withheld 38 2 0 192 ∷ [])
    -- one that is locked and not named speaks; one that is named and not locked; one that is neither; all eight
    ∷ damaged
    "00000000000000 1 0 100 00000 01 0001 1 0000000 1"
    "00000000000000 0 1 100 00000 00 0000 1 1000000 0"
    (headed 2 1 128 ++ entry Kind.ackodd 37 1 0 192 ∷ entry Kind.forced 38 1 0 128 ∷ [])
    ∷ damaged
    "00000000000000 1 0 100 00000 01 0001 1 0000000 1"
    "00000000000000 0 0 000 00000 00 0000 1 0000000 0"
    (headed 0 1 128 ++ entry Kind.ackodd 37 1 0 128 ∷ entry Kind.forced 38 1 0 128 ∷ [])
    ∷ damaged
    "00000000000000 1 0 100 00000 01 0001 1 0000000 1"
    "00000000000000 0 1 000 00000 00 0000 1 0000001 0"
    (headed 1 1 128 ++ entry Kind.ackodd 37 1 0 129 ∷ entry Kind.forced 38 1 0 128 ∷ [])
    ∷ damaged
    "00000000000000 1 0 100 00000 01 0001 1 0000000 1"
    "00000000000000 0 1 000 00000 00 0000 1 1111111 0"
    (headed 1 1 128 ++ entry Kind.ackodd 37 1 0 255 ∷ entry Kind.forced 38 1 0 128 ∷ [])
    -- cut before IDA7, nothing is told of the odd answer
    ∷ damaged
    "00000000000000 1 0 100 00000 01 0001 1 000000"
    "00000000000000 0 1 000 00000 00 0000 0 000000"
    (headed 1 1 128)
    -- not judged: the answers at S and EX of a broadcast, and at EX of an addressed command; at a 0 in the place of S
    ∷ damaged
    "00000000000000 1 0 000 00000 10 1001 1 1"
    "00000000000000 0 1 000 00000 00 0000 1 1"
    (headed 1 2 0 ++ entry Kind.executed 31 2 0 0 ∷ [])
    ∷ damaged
    "00000000000000 1 0 100 00000 01 0001 1 0000000 1"
    "00000000000000 0 1 000 00000 00 0000 1 0000000 1"
    (headed 1 1 128 ++ entry Kind.executed 38 1 0 128 ∷ [])
    ∷ damaged
    "00000000000000 1 0 100 00000 01 0001 0 0000000"
    "00000000000000 0 1 000 00000 00 0000 1 1111111"
    (headed 1 1 128)
    ∷ []

recordings_hold : map (λ s. read_as s.cdm s.cds) recordings ≡ map (λ s. s.shows) recordings
unfolding recordings damaged headed entry read_as columns_of word check remainder divide divide_bit bit push fits byte_of header selects acknowledgement execute_column judge timer Reader.seen Reader.locked Reader.headed Reader.asked Reader.look Reader.step Reader.columns Reader.entries Reader.entries_from Reader.list_from banked learnt bank_of
recordings_hold = refl
