-- Worked rows, drawn column under column: a chain's answers to a master row, and the master row that a request is built into, each
-- worked out from paper 01 by hand. They hold what no list shows: the answers that the reader does not judge, and a built row bit by
-- bit. One theorem over each list, by computation. Assumes nothing.
--
--   zeros          S header              RW S byte          P
--   00000000000000 1 1 000 10001 00 1101 10 1 00000000 0000 0    CTS, ID, address (five bits and two), check; data, check
--   00000000000000 0 1 000 00000 00 0000 10 1 01011010 0000 0    IDL0, IDL1 to 3, IDL4 to 8, columns 10 to 15 after S
use mathlib.Core.Path.{◌≡◌, refl}
use mathlib.Core.Bool.{Bool, true, false, cond}
use mathlib.Core.List.{List, [], ◌∷◌, ◌++◌, map}
use Prim.Native.Nat.{ℕ}
use Prim.Native.String.{String}
use lib.Dec.{eqb}
use lib.ListN.{replicate, set}
use Rattle.protocol.specs.Limits.{address_count}
use Rattle.protocol.specs.Bits.{bit, bits, push}
use Rattle.protocol.specs.Rest.{judge, timer}
use Rattle.protocol.specs.Division.{divide_bit, divide, remainder, check, word, fits, byte_of}
use Rattle.protocol.specs.Header.{header}
use Rattle.protocol.specs.Commands.{selects, execute_column}
use Rattle.protocol.specs.Memory.{Memory, chosen, place_of, allows, holds, stored, delay_by, delay, uncounted, one_more, counted}
use Rattle.protocol.specs.Building.{Request, read, write, command, byte_columns, frame_of, row_for}
use Rattle.protocol.specs.Entries.{bytes}
use Rattle.protocol.specs.Card.{blank}
use Rattle.protocol.specs.Slave
use Rattle.protocol.specs.Chain

-- A slave of one bank of which one register holds a value, the rest 0, with the same right everywhere ..
unfoldable pub holding : (address value right : ℕ) → Memory
holding address value right =
    record { banks = 1; registers = set (replicate address_count 0) address value; rights = replicate address_count right; wait = 0; counts = uncounted }

-- .. and with another right at one address.
except : (address right : ℕ) → Memory → Memory
except address right k =
    record { banks = k.banks; registers = k.registers; rights = set k.rights address right; wait = k.wait; counts = k.counts }

-- The bench card's slave, with a right: register 44 holds 5A ..
unfoldable pub one : (right : ℕ) → List Memory
one right = holding 0x44 0x5A right ∷ []

-- .. and with all rights and a waiting number.
unfoldable pub slow : (wait : ℕ) → List Memory
slow wait =
    let k : Memory = holding 0x44 0x5A 3 in
    record { banks = k.banks; registers = k.registers; rights = k.rights; wait = wait; counts = k.counts } ∷ []

-- Eight slaves, of which ID 7 may be read and holds 01 at address 7F, and so many more, which hold FF there.
eight_and : (more : ℕ) → List Memory
eight_and more = replicate 7 blank ++ holding 0x7F 0x01 1 ∷ replicate more (holding 0x7F 0xFF 3)

-- A row from its drawing: a column for each 0 and 1; the blanks are for the eye.
unfoldable pub columns_of : List ℕ → List Bool
columns_of [] = []
columns_of (c ∷ cs) =
    cond (eqb c 0x30) (false ∷ columns_of cs) (cond (eqb c 0x31) (true ∷ columns_of cs) (columns_of cs))

abbrev pub drawn : String → List Bool
drawn row = columns_of (bytes row)

pub record Drawing : Type 0 where
  pub chain : List Memory
  pub cdm : String
  pub cds : String

pub answered : Drawing → List Bool
answered d = Chain.answers_from d.chain (drawn d.cdm)

-- the chain, the master row, its answers
draw : List Memory → (cdm cds : String) → Drawing
draw chain cdm cds = record { chain = chain; cdm = cdm; cds = cds }

pub drawings : List Drawing
drawings =
    -- a read; after its P a fourteenth zero; at once S of a write, for which the slave takes its number anew
    draw (one 3)
    "00000000000000 1 1 000 10001 00 1101 10 1 00000000 0000 0 0 1 1 000 10001 00 1101 01 1 01011010 0000 0"
    "00000000000000 0 1 000 00000 00 0000 10 1 01011010 0000 0 0 0 1 000 00000 00 0000 01 1 01011010 0000 0"
    -- no slave
    ∷ draw []
    "00000000000000 1 1 000 10001 00 1101 10 1 00000000 0000 0"
    "00000000000000 0 0 000 00000 00 0000 00 0 00000000 0000 0"
    -- two slaves; two bytes of ID 1, whatever the master sends for them; a 0 at S, and ones after it
    ∷ draw (holding 0x41 0xFF 3 ∷ holding 0x41 0x80 1 ∷ [])
    "00000000000000 1 1 001 10000 01 1100 10 1 11111111 1111 1 1 00000000 0000 1 0 1 11111111 1111 1"
    "00000000000000 0 1 100 00000 00 0000 10 1 10000000 0001 0 1 00000000 1111 0 0 0 00000000 0000 0"
    -- eight slaves, nine and ten; the last address, and a 1 after P
    ∷ draw (eight_and 0)
    "00000000000000 1 1 111 11111 11 0000 10 1 00000000 0000 0 1 11111111 1111 1"
    "00000000000000 0 1 111 11110 00 0000 10 1 00000001 1100 1 0 00000000 0000 0"
    ∷ draw (eight_and 1)
    "00000000000000 1 1 111 11111 11 0000 10 1 00000000 0000 0 1 11111111 1111 1"
    "00000000000000 0 1 111 11111 00 0000 10 1 00000001 1100 1 0 00000000 0000 0"
    ∷ draw (eight_and 2)
    "00000000000000 1 1 111 11111 11 0000 10 1 00000000 0000 0 1 11111111 1111 1"
    "00000000000000 0 1 111 11111 00 0000 10 1 00000001 1100 1 0 00000000 0000 0"
    -- an ID that nobody holds; a wrong header check; a command
    ∷ draw (one 3)
    "00000000000000 1 1 001 10000 01 1100 10 1 00000000 0000 0"
    "00000000000000 0 1 000 00000 00 0000 00 0 00000000 0000 0"
    ∷ draw (one 3)
    "00000000000000 1 1 000 10001 00 1100 10 1 00000000 0000 0"
    "00000000000000 0 1 000 00000 00 0000 00 0 00000000 0000 0"
    ∷ draw (one 3)
    "00000000000000 1 0 000 00000 10 1001 10 1 11111111 1111 1"
    "00000000000000 0 1 000 00000 00 0000 00 0 00000000 0000 0"
    -- no right to read, and none to write; R = W
    ∷ draw (one 2)
    "00000000000000 1 1 000 10001 00 1101 10 1 00000000 0000 0"
    "00000000000000 0 1 000 00000 00 0000 11 0 00000000 0000 0"
    ∷ draw (one 1)
    "00000000000000 1 1 000 10001 00 1101 01 1 01011010 0000 0"
    "00000000000000 0 1 000 00000 00 0000 00 0 00000000 0000 0"
    ∷ draw (one 3)
    "00000000000000 1 1 000 10001 00 1101 11 1 01011010 0000 0"
    "00000000000000 0 1 000 00000 00 0000 10 0 00000000 0000 0"
    ∷ draw (one 3)
    "00000000000000 1 1 000 10001 00 1101 00 1 01011010 0000 0"
    "00000000000000 0 1 000 00000 00 0000 01 0 00000000 0000 0"
    -- a written byte, one with a wrong check, and a 1 after its P
    ∷ draw (one 3)
    "00000000000000 1 1 000 10001 00 1101 01 1 00000001 1100 1 1 10000000 0000 0 1 11111111 1111 1"
    "00000000000000 0 1 000 00000 00 0000 01 1 00000001 1100 0 1 10000000 0000 1 0 00000000 0000 0"
    -- no right at the next address: to write, and to read
    ∷ draw (except 0x45 1 (holding 0x44 0x5A 3) ∷ [])
    "00000000000000 1 1 000 10001 00 1101 01 1 00000001 1100 0 1 10000000 0001 0"
    "00000000000000 0 1 000 00000 00 0000 01 1 00000001 1100 1 0 00000000 0000 0"
    ∷ draw (except 0x45 2 (holding 0x44 0x5A 3) ∷ [])
    "00000000000000 1 1 000 10001 00 1101 10 1 00000000 0000 0 1 00000000 0000 0"
    "00000000000000 0 1 000 00000 00 0000 10 1 01011010 0000 1 0 00000000 0000 0"
    -- a memory that waits: each byte of a read; of a write all but the first (000, figure 32)
    ∷ draw (slow 2)
    "00000000000000 1 1 000 10001 00 1101 10 111 00000000 0000 0 111 00000000 0000 0"
    "00000000000000 0 1 000 00000 00 0000 10 001 01011010 0000 0 001 00000000 1111 0"
    ∷ draw (slow 2)
    "00000000000000 1 1 000 10001 00 1101 01 1 00000001 1100 0 111 10000000 0001 0 111 00000001 1100 0"
    "00000000000000 0 1 000 00000 00 0000 01 1 00000001 1100 0 001 10000000 0001 0 001 00000001 1100 0"
    -- the master gives up, and ones after it; it repeats S once too often, in a read and in a write, where the bits shift
    ∷ draw (slow 2)
    "00000000000000 1 1 000 10001 00 1101 10 11 01 11111111 1111 1"
    "00000000000000 0 1 000 00000 00 0000 10 00 00 00000000 0000 0"
    ∷ draw (slow 1)
    "00000000000000 1 1 000 10001 00 1101 10 111 00000000 0000 0"
    "00000000000000 0 1 000 00000 00 0000 10 010 10110100 0000 0"
    ∷ draw (slow 1)
    "00000000000000 1 1 000 10001 00 1101 01 1 00000001 1100 0 111 00000001 1100 0"
    "00000000000000 0 1 000 00000 00 0000 01 1 00000001 1100 0 011 00000001 1101 0"
    -- S, CTS = 1 and fourteen zeros; two zeros more, and S
    ∷ draw (one 3)
    "00000000000000 1 1 000 00000 00 0000 00 1 1 000 10001 00 1101 10 1 00000000 0000 0"
    "00000000000000 0 1 000 00000 00 0000 00 0 1 000 00000 00 0000 10 1 01011010 0000 0"
    -- power-on: ones, and a frame after thirteen zeros
    ∷ draw (one 3)
    "1 00000000 11 0000000000000 1 1 000 10001 00 1101 10 1 00000000 0000 0"
    "0 00000000 00 0000000000000 0 0 000 00000 00 0000 00 0 00000000 0000 0"
    ∷ []

pub answers_hold : map answered drawings ≡ map (λ d. drawn d.cds) drawings
unfolding drawings draw answered columns_of holding one slow eight_and except word check remainder divide divide_bit bit push fits byte_of header chosen place_of allows holds stored delay_by delay judge timer selects execute_column counted one_more Slave.lock Slave.called Slave.more Slave.speak Slave.step Chain.pass Chain.answers Chain.switched_on Chain.answers_from
answers_hold = refl

pub record Build : Type 0 where
  pub request : Request
  pub row : String

-- the request, its row
build : Request → String → Build
build request row = record { request = request; row = row }

pub builds : List Build
builds =
    build (read 0 0x44 1 0) "00000000000000 1 1 000 10001 00 1101 10 1 00000000 0000 0"
    ∷ build (read 0 0x7C 2 0) "00000000000000 1 1 000 11111 00 1001 10 1 00000000 0000 0 1 00000000 0000 0"
    ∷ build (write 1 0x41 (0x80 ∷ 0x01 ∷ []) 0) "00000000000000 1 1 001 10000 01 1100 01 1 10000000 0001 0 1 00000001 1100 0"
    -- S repeated at every byte that waits
    ∷ build (read 0 0x7C 2 2) "00000000000000 1 1 000 11111 00 1001 10 111 00000000 0000 0 111 00000000 0000 0"
    ∷ build (write 1 0x41 (0x80 ∷ 0x01 ∷ []) 3) "00000000000000 1 1 001 10000 01 1100 01 1 10000000 0001 0 1111 00000001 1100 0"
    -- a broadcast and an addressed command, executed and not
    ∷ build (command 0 2 true) "00000000000000 1 0 000 00000 10 1001 1 1"
    ∷ build (command 0 2 false) "00000000000000 1 0 000 00000 10 1001 1 0"
    ∷ build (command 0x80 1 true) "00000000000000 1 0 100 00000 01 0001 1 0000000 1"
    ∷ build (command 0x80 1 false) "00000000000000 1 0 100 00000 01 0001 1 0000000 0"
    ∷ []

pub builds_hold : map (λ b. row_for b.request) builds ≡ map (λ b. drawn b.row) builds
unfolding builds build columns_of row_for frame_of byte_columns delay_by execute_column bits bit word check remainder divide divide_bit
builds_hold = refl
