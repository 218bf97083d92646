-- Worked banks: frames one after the other on chains of one bank and of several, each expected list worked out from request 05 and 000 by
-- hand, without its columns. They hold what no law reaches: which place an address shows, when none, and which `written` chooses a bank. One
-- theorem over the list, by computation. Assumes nothing.
use mathlib.Core.Path.{◌≡◌, refl}
use mathlib.Core.Bool.{Bool}
use mathlib.Core.List.{List, [], ◌∷◌, ◌++◌, map}
use Prim.Native.Nat.{ℕ, zero, suc, ◌+◌, ◌*◌}
use lib.ListN.{replicate, set}
use Rattle.protocol.specs.Limits.{bank_size}
use Rattle.protocol.specs.Bits.{bit, bits, push}
use Rattle.protocol.specs.Rest.{judge, timer}
use Rattle.protocol.specs.Division.{divide_bit, divide, remainder, check, word, fits, byte_of}
use Rattle.protocol.specs.Header.{header}
use Rattle.protocol.specs.Memory.{Memory, chosen, place_of, allows, holds, stored, delay_by, delay, uncounted}
use Rattle.protocol.specs.Building.{Request, read, write, byte_columns, frame_of, row_for}
use Rattle.protocol.specs.Entries.{Kind, Event, event}
use Rattle.protocol.specs.Banks.{Banked, learnt, bank_of, banked}
use Rattle.protocol.specs.Slave
use Rattle.protocol.specs.Chain
use Rattle.protocol.specs.Reader
use Rattle.protocol.proofs.Cases.{flip, flips}

-- What a list shows, but for its columns.
record Line : Type 0 where
  shown : Event
  bank : ℕ

-- a kind, its ID, address, bank and value
line : Kind → (id address bank value : ℕ) → Line
line kind id address bank value = record { shown = event kind id address value; bank = bank }

line_of : Banked → Line
line_of e = record { shown = e.entry.event; bank = e.bank }

-- Bank b holds 10 + b in each register, the fixed ones hold 40, but the bank register, which holds a number; of one right.
filled : (banks value : ℕ) → List ℕ
filled zero value = []
filled (suc banks) value = filled banks value ++ replicate bank_size (value + banks)

slave_of : (banks number right : ℕ) → Memory
slave_of banks number right =
    record {
      banks = banks;
      registers = set (filled banks 0x10 ++ replicate bank_size 0x40) (bank_size * banks) number;
      rights = replicate (bank_size * suc banks) right;
      wait = 0;
      counts = uncounted;
    }

-- The same, with a right of its own in bank 1.
shut : Memory → (right : ℕ) → Memory
shut k right =
    record {
      banks = k.banks;
      registers = k.registers;
      rights = replicate bank_size 3 ++ replicate bank_size right ++ replicate bank_size 3;
      wait = k.wait;
      counts = k.counts;
    }

record Sample : Type 0 where
  chain : List Memory
  requests : List Request
  wrong : List ℕ
  damage : List ℕ
  shows : List Line

-- the chain, the requests one after the other, the columns whose master bit, and whose answer, is flipped, the list
sample : List Memory → List Request → (wrong damage : List ℕ) → List Line → Sample
sample chain requests wrong damage shows =
    record { chain = chain; requests = requests; wrong = wrong; damage = damage; shows = shows }

row_of : List Request → List Bool
row_of [] = []
row_of (r ∷ rs) = row_for r ++ row_of rs

listed : Sample → List Line
listed s =
    let row : List Bool = flips s.wrong (row_of s.requests) in
    map line_of (Reader.list_from 0 (Reader.columns row (flips s.damage (Chain.answers_from s.chain row))))

locked : (slaves : ℕ) → Line
locked n = line Kind.lock 0 0 0 n

ended : Line
ended = line Kind.end 0 0 0 0

choose : (id number : ℕ) → Request
choose id number = write id 64 (number ∷ []) 0

look : (id address : ℕ) → Request
look id address = read id address 1 0

samples : List Sample
samples =
    -- two banks: as they were, bank 0 and bank 1; the list has shown none
    sample (slave_of 2 0 3 ∷ []) (look 0 5 ∷ []) [] [] (locked 1 ∷ line Kind.read 0 5 255 0x10 ∷ [])
    ∷ sample (slave_of 2 1 3 ∷ []) (look 0 5 ∷ []) [] [] (locked 1 ∷ line Kind.read 0 5 255 0x11 ∷ [])
    -- the last of eight
    ∷ sample (slave_of 8 7 3 ∷ []) (look 0 63 ∷ []) [] [] (locked 1 ∷ line Kind.read 0 63 255 0x17 ∷ [])
    -- one chosen, and written behind it; the other is as it was
    ∷ sample (slave_of 2 0 3 ∷ []) (choose 0 1 ∷ look 0 5 ∷ write 0 5 (0x77 ∷ []) 0 ∷ look 0 5 ∷ choose 0 0 ∷ look 0 5 ∷ []) [] []
    (locked 1 ∷ line Kind.written 0 64 0 1 ∷ ended ∷ locked 1 ∷ line Kind.read 0 5 1 0x11 ∷ ended ∷ locked 1 ∷ line Kind.written 0 5 1 0x77
    ∷ ended ∷ locked 1 ∷ line Kind.read 0 5 1 0x77 ∷ ended ∷ locked 1 ∷ line Kind.written 0 64 0 0 ∷ ended ∷ locked 1
    ∷ line Kind.read 0 5 0 0x10 ∷ [])
    -- one that is not held: nothing is allowed at 0 to 63, to a read and to a write, until one is chosen that is; so from the start
    ∷ sample (slave_of 2 0 3 ∷ []) (choose 0 2 ∷ look 0 5 ∷ write 0 63 (0x77 ∷ []) 0 ∷ look 0 65 ∷ choose 0 1 ∷ look 0 5 ∷ []) [] []
    (locked 1 ∷ line Kind.written 0 64 0 2 ∷ ended ∷ locked 1 ∷ line Kind.refused 0 5 2 0 ∷ ended ∷ locked 1 ∷ line Kind.refused 0 63 2 1
    ∷ ended ∷ locked 1 ∷ line Kind.read 0 65 0 0x40 ∷ ended ∷ locked 1 ∷ line Kind.written 0 64 0 1 ∷ ended ∷ locked 1
    ∷ line Kind.read 0 5 1 0x11 ∷ [])
    ∷ sample (slave_of 2 2 3 ∷ []) (look 0 0 ∷ []) [] [] (locked 1 ∷ line Kind.refused 0 0 255 0 ∷ [])
    -- a choice with a wrong check is none; one with a wrong echo is stored, and the list has not shown it
    ∷ sample (slave_of 2 0 3 ∷ []) (choose 0 1 ∷ look 0 5 ∷ []) (41 ∷ []) []
    (locked 1 ∷ line Kind.writebad 0 64 0 1 ∷ line Kind.closed 0 64 0 0 ∷ ended ∷ locked 1 ∷ line Kind.read 0 5 255 0x10 ∷ [])
    ∷ sample (slave_of 2 0 3 ∷ []) (choose 0 1 ∷ look 0 5 ∷ []) [] (33 ∷ [])
    (locked 1 ∷ line Kind.echo 0 64 0 1 ∷ ended ∷ locked 1 ∷ line Kind.read 0 5 255 0x11 ∷ [])
    -- one that is refused is none either; the bank register itself is read as it stands
    ∷ sample (slave_of 2 1 1 ∷ []) (choose 0 0 ∷ look 0 5 ∷ look 0 64 ∷ []) [] []
    (locked 1 ∷ line Kind.refused 0 64 0 1 ∷ ended ∷ locked 1 ∷ line Kind.read 0 5 255 0x11 ∷ ended ∷ locked 1 ∷ line Kind.read 0 64 0 1 ∷ [])
    -- another ID's choice is its own
    ∷ sample (slave_of 2 0 3 ∷ slave_of 3 0 3 ∷ []) (choose 1 2 ∷ look 0 5 ∷ look 1 5 ∷ []) [] []
    (locked 2 ∷ line Kind.written 1 64 0 2 ∷ ended ∷ locked 2 ∷ line Kind.read 0 5 255 0x10 ∷ ended ∷ locked 2 ∷ line Kind.read 1 5 2 0x12 ∷ [])
    -- rights of its own: bank 1 may not be written, and bank 0 may
    ∷ sample (shut (slave_of 2 0 3) 1 ∷ []) (write 0 5 (0x77 ∷ []) 0 ∷ choose 0 1 ∷ write 0 5 (0x77 ∷ []) 0 ∷ look 0 5 ∷ []) [] []
    (locked 1 ∷ line Kind.written 0 5 255 0x77 ∷ ended ∷ locked 1 ∷ line Kind.written 0 64 0 1 ∷ ended ∷ locked 1 ∷ line Kind.refused 0 5 1 1
    ∷ ended ∷ locked 1 ∷ line Kind.read 0 5 1 0x11 ∷ [])
    -- a sequence over the border: read from 63 to 65, and written, where 64 chooses and 65 goes on; 63 went into the old bank
    ∷ sample (slave_of 2 1 3 ∷ []) (read 0 63 3 0 ∷ []) [] []
    (locked 1 ∷ line Kind.read 0 63 255 0x11 ∷ line Kind.read 0 64 0 1 ∷ line Kind.read 0 65 0 0x40 ∷ [])
    ∷ sample (slave_of 2 1 3 ∷ []) (write 0 63 (0x77 ∷ 0 ∷ 0x78 ∷ []) 0 ∷ read 0 63 3 0 ∷ choose 0 1 ∷ look 0 63 ∷ []) [] []
    (locked 1 ∷ line Kind.written 0 63 255 0x77 ∷ line Kind.written 0 64 0 0 ∷ line Kind.written 0 65 0 0x78 ∷ ended ∷ locked 1
    ∷ line Kind.read 0 63 0 0x10 ∷ line Kind.read 0 64 0 0 ∷ line Kind.read 0 65 0 0x78 ∷ ended ∷ locked 1 ∷ line Kind.written 0 64 0 1 ∷ ended
    ∷ locked 1 ∷ line Kind.read 0 63 1 0x77 ∷ [])
    -- one bank: it is shown; the bank register is refused, to a read and to a write, and ends a sequence at 63
    ∷ sample (slave_of 1 0 3 ∷ []) (look 0 5 ∷ look 0 64 ∷ choose 0 0 ∷ read 0 62 2 0 ∷ []) [] []
    (locked 1 ∷ line Kind.read 0 5 255 0x10 ∷ ended ∷ locked 1 ∷ line Kind.refused 0 64 0 0 ∷ ended ∷ locked 1 ∷ line Kind.refused 0 64 0 1
    ∷ ended ∷ locked 1 ∷ line Kind.read 0 62 255 0x10 ∷ line Kind.read 0 63 255 0x10 ∷ line Kind.closed 0 63 255 0 ∷ [])
    -- .. and a number other than 0 there shows nothing at 0 to 63
    ∷ sample (slave_of 1 1 3 ∷ []) (look 0 5 ∷ look 0 65 ∷ []) [] []
    (locked 1 ∷ line Kind.refused 0 5 255 0 ∷ ended ∷ locked 1 ∷ line Kind.read 0 65 0 0x40 ∷ [])
    ∷ []

samples_hold : map listed samples ≡ map (λ s. s.shows) samples
unfolding samples sample listed line line_of row_of locked ended choose look filled slave_of shut flips flip row_for frame_of byte_columns word check remainder divide divide_bit bit bits push fits byte_of header chosen place_of allows holds stored delay_by delay judge timer Slave.lock Slave.called Slave.more Slave.speak Slave.step Chain.pass Chain.answers Chain.switched_on Chain.answers_from Reader.seen Reader.locked Reader.headed Reader.asked Reader.look Reader.step Reader.columns Reader.entries Reader.entries_from Reader.list_from banked learnt bank_of
samples_hold = refl

-- Two choices, opened late: a reader let in behind the first knows no bank until its own list has shown the second.
late : (k : ℕ) → List Line
late k =
    let row : List Bool = row_of (choose 0 1 ∷ look 0 5 ∷ choose 0 0 ∷ look 0 5 ∷ []) in
    map line_of (Reader.list_from k (Reader.columns row (Chain.answers_from (slave_of 2 0 3 ∷ []) row)))

second : List Line
second = locked 1 ∷ line Kind.written 0 64 0 0 ∷ ended ∷ locked 1 ∷ line Kind.read 0 5 0 0x10 ∷ []

late_hold : map late (0 ∷ 46 ∷ 47 ∷ [])
    ≡ (locked 1 ∷ line Kind.written 0 64 0 1 ∷ ended ∷ locked 1 ∷ line Kind.read 0 5 1 0x11 ∷ ended ∷ second)
    ∷ (locked 1 ∷ line Kind.read 0 5 255 0x11 ∷ ended ∷ second) ∷ second ∷ []
unfolding late second line line_of row_of locked ended choose look filled slave_of row_for frame_of byte_columns word check remainder divide divide_bit bit bits push fits byte_of header chosen place_of allows holds stored delay_by delay judge timer Slave.lock Slave.called Slave.more Slave.speak Slave.step Chain.pass Chain.answers Chain.switched_on Chain.answers_from Reader.seen Reader.locked Reader.headed Reader.asked Reader.look Reader.step Reader.columns Reader.entries Reader.entries_from Reader.list_from banked learnt bank_of
late_hold = refl
