-- Worked rows: the bench card's run and the small cases below it, and every kind on the smallest damage that shows it, each expected list
-- worked out from paper 01 by hand. They hold what no law reaches: the kinds of breaches, the four rights, fourteen zeros and 64 bytes. And
-- the table of kinds, each with its bytes and its line of text, and what is no list. One theorem over each list, by computation.
-- Assumes nothing.
--
-- The rows are a built request's, with bits flipped in the master row or in the chain's answers to it:
--
--   column  0 .. 13  14  15 .. 23      24 .. 29   30  31  32  33 .. 40  41 .. 44  45
--           zeros    S   header, IDL   header     R   W   S   data      check     P
use mathlib.Core.Path.{◌≡◌, refl}
use mathlib.Core.Bool.{Bool, true, false, not}
use mathlib.Core.List.{List, [], ◌∷◌, ◌++◌, map}
use Prim.Native.Nat.{ℕ, zero, suc, ◌+◌, ◌*◌}
use Prim.Native.String.{String}
use lib.ListN.{replicate, take, drop, set}
use Rattle.protocol.specs.Bits.{bit, bits, push}
use Rattle.protocol.specs.Rest.{judge, timer}
use Rattle.protocol.specs.Division.{divide_bit, divide, remainder, check, word, fits, byte_of}
use Rattle.protocol.specs.Header.{header}
use Rattle.protocol.specs.Memory.{Memory, chosen, place_of, allows, holds, stored, delay_by, delay}
use Rattle.protocol.specs.Building.{read, write, command, byte_columns, frame_of, row_for}
use Rattle.protocol.specs.Entries.{Kind, event, bytes, numbered}
use Rattle.protocol.specs.Banks.{Banked, learnt, bank_of, banked}
use Rattle.protocol.specs.Pieces.{in_bytes, number_at, cut, pieces, is_whole}
use Rattle.protocol.specs.Layout.{current, field_bytes, bytes_of, entries_of, entries_in, all_entries, is_list}
use Rattle.protocol.specs.Text.{digits_in, decimal, field, cells, entry_line, entry_lines}
use Rattle.protocol.specs.Understood.{in_frame}
use Rattle.protocol.specs.Slave
use Rattle.protocol.specs.Chain
use Rattle.protocol.specs.Reader
use Rattle.laws.proofs.Table.{tabulate}
use Rattle.protocol.proofs.Drawn.{holding, one, slow, columns_of, drawn}

unfoldable pub flip : ℕ → List Bool → List Bool
flip zero [] = []
flip (suc n) [] = []
flip zero (b ∷ bs) = not b ∷ bs
flip (suc n) (b ∷ bs) = b ∷ flip n bs

unfoldable pub flips : List ℕ → List Bool → List Bool
flips [] bs = bs
flips (n ∷ ns) bs = flip n (flips ns bs)

pub record Sample : Type 0 where
  pub chain : List Memory
  pub row : List Bool
  pub damage : List ℕ
  pub shows : List Banked

pub listed : Sample → List Banked
listed s =
    Reader.list_from 0 (Reader.columns s.row (flips s.damage (Chain.answers_from s.chain s.row)))

-- the chain, the master row, the columns whose answers are flipped, the list
sample : List Memory → List Bool → List ℕ → List Banked → Sample
sample chain row damage shows = record { chain = chain; row = row; damage = damage; shows = shows }

-- The built read of ID 0, address 44, one byte, and one zero more; the built write of 5B there.
reading : List Bool
reading = row_for (read 0 0x44 1 0) ++ false ∷ []

writing : List Bool
writing = row_for (write 0 0x44 (0x5B ∷ []) 0)

-- An entry: its kind, column, id, address and value; it names no bank ..
unfoldable pub entry : Kind → (column id address value : ℕ) → Banked
entry kind column id address value = record { entry = in_frame column (event kind id address value); bank = 0 }

-- .. or one, at addresses 0 to 63.
behind : (bank : ℕ) → Banked → Banked
behind bank e = record { entry = e.entry; bank = bank }

locked : Banked
locked = entry Kind.lock 23 0 0 1

ended : List Banked
ended = entry Kind.end 46 0 0 0 ∷ []

pub samples : List Sample
samples =
    -- the bench run; the same without its last column; with thirteen zeros before S
    sample (one 3) reading [] (locked ∷ entry Kind.read 44 0 68 90 ∷ ended)
    ∷ sample (one 3) (row_for (read 0 0x44 1 0)) [] (locked ∷ entry Kind.read 44 0 68 90 ∷ [])
    ∷ sample (one 3) (drop 1 reading) [] []
    -- two slaves: the far one is ID 0
    ∷ sample (holding 0x44 0x5A 3 ∷ holding 0x44 0x11 3 ∷ []) reading []
    (entry Kind.lock 23 0 0 2 ∷ entry Kind.read 44 0 68 90 ∷ ended)
    ∷ sample (holding 0x44 0x5A 3 ∷ holding 0x44 0x11 3 ∷ []) (row_for (read 1 0x44 1 0)) []
    (entry Kind.lock 23 0 0 2 ∷ entry Kind.read 44 1 68 17 ∷ [])
    -- IDL2 is 1 after IDL1 was 0
    ∷ sample (one 3) reading (17 ∷ []) (entry Kind.lockodd 23 0 0 0 ∷ ended)
    -- the last check bit of the header; the header alone with CTS = 0
    ∷ sample (one 3) (flips (29 ∷ []) reading) [] (locked ∷ entry Kind.badhead 29 0 0 0 ∷ ended)
    ∷ sample (one 3) (take 30 (row_for (command 0 2 true))) [] (locked ∷ entry Kind.command 29 2 0 0 ∷ [])
    -- IDS: its first bit is ID 0's and stands highest
    ∷ sample (one 3) (drawn "00000000000000 1 0 100 00000 01 0001") [] (locked ∷ entry Kind.command 29 1 0 128 ∷ [])
    -- S, CTS = 1 and fourteen zeros: the fourteenth is the header's last column
    ∷ sample (one 3) (replicate 14 false ++ true ∷ true ∷ replicate 14 false) [] (locked ∷ entry Kind.end 29 0 0 0 ∷ [])
    -- R = W; an ID that nobody holds; no right to read, and none to write
    ∷ sample (one 3) (flips (31 ∷ []) reading) [] (locked ∷ entry Kind.pair 31 0 68 0 ∷ ended)
    ∷ sample (one 3) (row_for (read 1 0x44 1 0)) [] (locked ∷ entry Kind.absent 31 1 68 0 ∷ [])
    ∷ sample (one 2) reading [] (locked ∷ entry Kind.refused 31 0 68 0 ∷ ended)
    ∷ sample (one 1) writing [] (locked ∷ entry Kind.refused 31 0 68 1 ∷ [])
    ∷ sample (one 0) reading [] (locked ∷ entry Kind.refused 31 0 68 0 ∷ ended)
    -- a locked ID that does not repeat the R of a read, and of a write; one that is not locked and accepts a read, and a write
    ∷ sample (one 3) reading (30 ∷ []) (locked ∷ entry Kind.odd 31 0 68 0 ∷ ended)
    ∷ sample (one 3) writing (30 ∷ []) (locked ∷ entry Kind.odd 31 0 68 3 ∷ [])
    ∷ sample (one 3) reading (15 ∷ []) (entry Kind.lock 23 0 0 0 ∷ entry Kind.odd 31 0 68 2 ∷ ended)
    ∷ sample (one 3) writing (15 ∷ []) (entry Kind.lock 23 0 0 0 ∷ entry Kind.odd 31 0 68 1 ∷ [])
    -- S = 1 answered 0, and so again; a data bit of the answer, and a byte after it; P answered 1
    ∷ sample (one 3) (flips (33 ∷ []) reading) (32 ∷ []) (locked ∷ entry Kind.mute 34 0 68 0 ∷ [])
    ∷ sample (one 3) (row_for (read 0 0x44 2 0)) (33 ∷ []) (locked ∷ entry Kind.readbad 44 0 68 218 ∷ entry Kind.read 58 0 69 0 ∷ [])
    ∷ sample (one 3) reading (45 ∷ []) (locked ∷ entry Kind.read 44 0 68 90 ∷ entry Kind.closed 45 0 68 0 ∷ ended)
    -- a write; a data bit of the master; the last bit of the echo; another, and a byte after it; both
    ∷ sample (one 2) writing [] (locked ∷ entry Kind.written 44 0 68 91 ∷ [])
    ∷ sample (one 3) (flips (33 ∷ []) writing) [] (locked ∷ entry Kind.writebad 44 0 68 219 ∷ entry Kind.closed 45 0 68 0 ∷ [])
    ∷ sample (one 3) writing (44 ∷ []) (locked ∷ entry Kind.echo 44 0 68 91 ∷ [])
    ∷ sample (one 3) (row_for (write 0 0x44 (0x5B ∷ 0x01 ∷ []) 0)) (34 ∷ [])
    (locked ∷ entry Kind.echo 44 0 68 91 ∷ entry Kind.written 58 0 69 1 ∷ [])
    ∷ sample (one 3) (flips (33 ∷ []) writing) (34 ∷ 45 ∷ []) (locked ∷ entry Kind.writebad 44 0 68 219 ∷ [])
    -- a memory that waits, and a row built with its waiting number: a read, and a write, of which the first byte does not wait
    ∷ sample (slow 2) (row_for (read 0 0x44 1 2) ++ false ∷ []) []
    (locked ∷ entry Kind.read 46 0 68 90 ∷ entry Kind.end 48 0 0 0 ∷ [])
    ∷ sample (slow 3) (row_for (write 0 0x44 (0x5B ∷ 0x01 ∷ []) 3)) []
    (locked ∷ entry Kind.written 44 0 68 91 ∷ entry Kind.written 61 0 69 1 ∷ [])
    -- the master gives up: at the first byte, and at the second; a 0 in the place of its first S is no `mute`
    ∷ sample (slow 3) (row_for (read 0 0x44 1 1) ++ false ∷ []) []
    (locked ∷ entry Kind.mute 34 0 68 0 ∷ entry Kind.end 47 0 0 0 ∷ [])
    ∷ sample (slow 1) (row_for (read 0 0x44 1 1) ++ true ∷ false ∷ []) []
    (locked ∷ entry Kind.read 45 0 68 90 ∷ entry Kind.mute 48 0 69 0 ∷ [])
    ∷ sample (slow 3) (row_for (write 0 0x44 (0x5B ∷ []) 3) ++ false ∷ true ∷ []) [] (locked ∷ entry Kind.written 44 0 68 91 ∷ [])
    -- it repeats S once too often at a written byte, whose bits shift
    ∷ sample (slow 1) (drawn "00000000000000 1 1 000 10001 00 1101 01 1 00000001 1100 0 111 00000001 1100 0") []
    (locked ∷ entry Kind.written 44 0 68 1 ∷ entry Kind.writebad 59 0 69 128 ∷ entry Kind.closed 60 0 69 0 ∷ [])
    -- the first S of a write answered 0: the reader waits there too
    ∷ sample (one 3) writing (32 ∷ []) (locked ∷ entry Kind.mute 33 0 68 0 ∷ [])
    -- the last address: P is 1; P answered 0 there, and a 1 after it
    ∷ sample (one 1) (row_for (read 0 0x7F 1 0)) []
    (locked ∷ entry Kind.read 44 0 127 0 ∷ entry Kind.closed 45 0 127 0 ∷ [])
    ∷ sample (one 1) (row_for (read 0 0x7F 1 0) ++ true ∷ []) (45 ∷ [])
    (locked ∷ entry Kind.read 44 0 127 0 ∷ entry Kind.odd 45 0 127 4 ∷ [])
    -- P answered 0 at the 64th byte
    ∷ sample (one 1) (row_for (read 0 0x00 64 0)) (927 ∷ [])
    (locked ∷ tabulate (λ i. behind 255 (entry Kind.read (44 + 14 * i) 0 i 0)) 0 64 ++ behind 255 (entry Kind.odd 927 0 63 4) ∷ [])
    ∷ []

pub samples_hold : map listed samples ≡ map (λ s. s.shows) samples
unfolding samples sample entry behind listed flips flip reading writing locked ended holding one slow columns_of row_for frame_of byte_columns word check remainder divide divide_bit bit bits push fits byte_of header chosen place_of allows holds stored delay_by delay judge timer Slave.lock Slave.called Slave.more Slave.speak Slave.step Chain.pass Chain.answers Chain.switched_on Chain.answers_from Reader.seen Reader.locked Reader.headed Reader.asked Reader.look Reader.step Reader.columns Reader.entries Reader.entries_from Reader.list_from banked learnt bank_of
samples_hold = refl

-- Two reads one after the other: each entry has its own frame's S, and fourteen columns before the second a reader opens at it.
twice : (k : ℕ) → List Banked
twice k =
    let row : List Bool = row_for (read 0 0x44 1 0) ++ reading in Reader.list_from k (Reader.columns row (Chain.answers_from (one 3) row))

-- A kind, its column, the column of S, id, address, bank and value.
unfoldable pub placed : Kind → (column start id address bank value : ℕ) → Banked
placed kind column start id address bank value =
    record { entry = record { place = record { column = column; start = start }; event = event kind id address value }; bank = bank }

second : List Banked
second = placed Kind.lock 69 60 0 0 0 1 ∷ placed Kind.read 90 60 0 68 0 90 ∷ placed Kind.end 92 60 0 0 0 0 ∷ []

starts_hold : map twice (0 ∷ 14 ∷ 46 ∷ 47 ∷ []) ≡ (locked ∷ entry Kind.read 44 0 68 90 ∷ ended ++ second) ∷ second ∷ second ∷ [] ∷ []
unfolding twice placed second entry reading locked ended holding one row_for frame_of byte_columns word check remainder divide divide_bit bit bits push fits byte_of header chosen place_of allows holds stored delay_by delay judge timer Slave.lock Slave.called Slave.more Slave.speak Slave.step Chain.pass Chain.answers Chain.switched_on Chain.answers_from Reader.seen Reader.locked Reader.headed Reader.asked Reader.look Reader.step Reader.columns Reader.entries Reader.entries_from Reader.list_from banked learnt bank_of
starts_hold = refl

-- A kind, and what is expected of its entry in column 300, S in column 270, with id 5, address 63, bank 3 and value 90: its bytes, and its
-- line; and its line at address 64.
pub record KindLine : Type 0 where
  pub kind : Kind
  pub laid : List ℕ
  pub line : List ℕ
  pub fixed : List ℕ

-- the kind, its number, the fields id, address, bank and value; its name, and how the four are printed, and at address 64
kind_line : Kind → (number id address bank value : ℕ) → (name fields fixed : String) → KindLine
kind_line kind number id address bank value name fields fixed =
    record {
      kind = kind;
      laid = number ∷ 1 ∷ 44 ∷ 1 ∷ 14 ∷ id ∷ address ∷ bank ∷ value ∷ [];
      line = bytes name ++ bytes "\t300\t270\t" ++ bytes fields;
      fixed = bytes name ++ bytes "\t300\t270\t" ++ bytes fixed;
    }

pub kind_lines : List KindLine
kind_lines =
    kind_line Kind.lock 1 0 0 0 90 "lock" "-\t-\t-\t90\n" "-\t-\t-\t90\n"
    ∷ kind_line Kind.lockodd 2 0 0 0 0 "lockodd" "-\t-\t-\t-\n" "-\t-\t-\t-\n"
    ∷ kind_line Kind.badhead 3 0 0 0 0 "badhead" "-\t-\t-\t-\n" "-\t-\t-\t-\n"
    ∷ kind_line Kind.command 4 5 0 0 90 "command" "5\t-\t-\t90\n" "5\t-\t-\t90\n"
    ∷ kind_line Kind.pair 5 5 63 3 0 "pair" "5\t63\t3\t-\n" "5\t64\t-\t-\n"
    ∷ kind_line Kind.absent 6 5 63 3 0 "absent" "5\t63\t3\t-\n" "5\t64\t-\t-\n"
    ∷ kind_line Kind.refused 7 5 63 3 90 "refused" "5\t63\t3\t90\n" "5\t64\t-\t90\n"
    ∷ kind_line Kind.odd 8 5 63 3 90 "odd" "5\t63\t3\t90\n" "5\t64\t-\t90\n"
    ∷ kind_line Kind.mute 9 5 63 3 0 "mute" "5\t63\t3\t-\n" "5\t64\t-\t-\n"
    ∷ kind_line Kind.read 10 5 63 3 90 "read" "5\t63\t3\t90\n" "5\t64\t-\t90\n"
    ∷ kind_line Kind.written 11 5 63 3 90 "written" "5\t63\t3\t90\n" "5\t64\t-\t90\n"
    ∷ kind_line Kind.readbad 12 5 63 3 90 "readbad" "5\t63\t3\t90\n" "5\t64\t-\t90\n"
    ∷ kind_line Kind.writebad 13 5 63 3 90 "writebad" "5\t63\t3\t90\n" "5\t64\t-\t90\n"
    ∷ kind_line Kind.echo 14 5 63 3 90 "echo" "5\t63\t3\t90\n" "5\t64\t-\t90\n"
    ∷ kind_line Kind.end 15 0 0 0 0 "end" "-\t-\t-\t-\n" "-\t-\t-\t-\n"
    ∷ kind_line Kind.closed 16 5 63 3 0 "closed" "5\t63\t3\t-\n" "5\t64\t-\t-\n"
    ∷ kind_line Kind.executed 17 5 0 0 90 "executed" "5\t-\t-\t90\n" "5\t-\t-\t90\n"
    ∷ kind_line Kind.withheld 18 5 0 0 90 "withheld" "5\t-\t-\t90\n" "5\t-\t-\t90\n"
    ∷ kind_line Kind.ackodd 19 5 0 0 90 "ackodd" "5\t-\t-\t90\n" "5\t-\t-\t90\n"
    ∷ kind_line Kind.forced 20 5 0 0 90 "forced" "5\t-\t-\t90\n" "5\t-\t-\t90\n"
    ∷ []

pub kinds_hold : map (λ s. bytes_of current (placed s.kind 300 270 5 63 (bank_of (replicate 8 3) (event s.kind 5 63 90)) 90)) kind_lines
    ≡ map (λ s. s.laid) kind_lines
unfolding kind_lines kind_line placed bank_of bytes_of field_bytes in_bytes
kinds_hold = refl

pub kinds_print : map (λ s. entry_lines (entries_in current s.laid)) kind_lines ≡ map (λ s. s.line) kind_lines
unfolding kind_lines kind_line numbered pieces cut number_at entries_in entries_of digits_in decimal field cells entry_line entry_lines
kinds_print = refl

-- .. with address 64 in the place of 63, and in the place of 0, where it is not named.
pub fixed_print : map (λ s. entry_lines (entries_in current (set s.laid 6 64))) kind_lines ≡ map (λ s. s.fixed) kind_lines
unfolding kind_lines kind_line numbered pieces cut number_at entries_in entries_of digits_in decimal field cells entry_line entry_lines
fixed_print = refl

-- Refusal 12: lengths 0 to 18, of kind 1 throughout; kinds 0, 1, 20 and 21.
lengths_hold : tabulate (λ n. is_list current (replicate n 1)) 0 19
    ≡ true ∷ replicate 8 false ++ true ∷ replicate 8 false ++ true ∷ []
unfolding is_list is_whole all_entries pieces cut number_at numbered
lengths_hold = refl

numbers_hold : map (λ k. is_list current (k ∷ replicate 8 0)) (0 ∷ 1 ∷ 20 ∷ 21 ∷ []) ≡ false ∷ true ∷ true ∷ false ∷ []
unfolding is_list is_whole all_entries pieces cut number_at numbered
numbers_hold = refl
