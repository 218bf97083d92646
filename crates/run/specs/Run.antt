-- The job run: a chain of slaves over a master row; when it refuses, and what it leaves. The chain itself is protocol's (specs/Chain).
use Rattle.std.specs.Prelude.{Bool, not, ◌&&◌, List, [], ◌∷◌, ◌++◌, map, ℕ, ◌+◌, ◌*◌, ltb, leb, eqb, length, take, drop, get_or, Result}
use Rattle.std.specs.List.{list_all}
use Rattle.protocol.specs.Limits.{slave_limit, bank_size, bank_limit, command_count}
use Rattle.protocol.specs.Bits.{num, row_of}
use Rattle.protocol.specs.Memory.{Memory, uncounted}
use Rattle.protocol.specs.Chain.{answers_from, memories_after}
use Rattle.job.specs.Bytes.{none_above}
use Rattle.job.specs.Refusals.{Rule, when, lent, Ended}
use Rattle.job.specs.Rows.{wrong_row}
use Rattle.job.specs.declared.Refusal.{Refusal}

-- Request 05: "64 x (banks + 1) bytes a slave": its banks, and behind them its fixed registers ..
abbrev pub size_of : (banks : ℕ) → ℕ
size_of banks = bank_size * (banks + 1)

-- .. and the bytes of all slaves of a table.
unfoldable pub sizes : (table : List ℕ) → ℕ
sizes [] = 0
sizes (b ∷ table) = size_of b + sizes table

-- Request 05: "A table gives each slave 1 to 8 banks of 64 bytes".
abbrev pub are_counts : (table : List ℕ) → Bool
are_counts table = list_all (λ b. leb 1 b && leb b bank_limit) table

-- "Chain order in the buffers is far slave first": its registers and rights, as many as its banks take, and its waiting number, then those
-- of its neighbour, and so on. Request 07: its counts are "from 0 in each run", whatever was lent.
unfoldable pub memories_of : (table registers rights waits : List ℕ) → List Memory
memories_of [] registers rights waits = []
memories_of (b ∷ table) registers rights waits =
    record {
      banks = b;
      registers = take (size_of b) registers;
      rights = take (size_of b) rights;
      wait = get_or waits 0 0;
      counts = uncounted;
    }
    ∷ memories_of table (drop (size_of b) registers) (drop (size_of b) rights) (drop 1 waits)

-- .. and back: the registers of all slaves in one buffer.
unfoldable pub registers_of : List Memory → List ℕ
registers_of [] = []
registers_of (k ∷ ks) = k.registers ++ registers_of ks

-- Request 07: "a count of executions for each slave and code", far slave first, by code: the counts of all slaves in one table.
unfoldable pub counts_of : List Memory → List ℕ
counts_of [] = []
counts_of (k ∷ ks) = k.counts ++ counts_of ks

-- "Run: 1 to 7." Refusals 2 to 4 and the rows, of slaves that have so many bytes. Request 05: "2 and 3 use 64 x (banks + 1) bytes a slave".
-- 4: "a right above 3". Request 03: "18, a table of waits not one per slave, after 4". Request 07: "21, the count table not four counts per
-- slave, after 18". The registers, the waits, the counts and the answer row count by their lengths alone; 5 to 7 are those of any rows
-- (job's specs/Rows).
unfoldable pub size_refusals : (slaves bytes registers : ℕ) → (rights : List ℕ) → (waits counts : ℕ) → (cdm : List ℕ) → (columns : ℕ)
    → List Rule
size_refusals slaves bytes registers rights waits counts cdm columns =
    when (not (eqb registers bytes)) 2
    ∷ when (not (eqb (length rights) bytes)) 3
    ∷ when (not (none_above 3 rights)) 4
    ∷ when (not (eqb waits slaves)) 18
    ∷ when (not (eqb counts (command_count * slaves))) 21
    ∷ wrong_row cdm columns

-- All of them. 1: "more than 16 slaves". Request 05: "19, the table not one number of 1 to 8 per slave, after 1".
unfoldable pub refusals : (slaves : ℕ) → (table : List ℕ) → (registers : ℕ) → (rights : List ℕ) → (waits counts : ℕ) → (cdm : List ℕ)
    → (columns : ℕ) → List Rule
refusals slaves table registers rights waits counts cdm columns =
    when (ltb slave_limit slaves) 1
    ∷ when (not (eqb (length table) slaves && are_counts table)) 19
    ∷ size_refusals slaves (sizes table) registers rights waits counts cdm columns

-- What run returns, in columns, and what it leaves in the lent registers, in the lent counts and in the lent answer row.
pub record Ran (slaves : ℕ) (table rights waits registers counts cdm cds : List ℕ) (outcome : Result ℕ Refusal)
    (registers' counts' cds' : List ℕ) : Type 0 where
  pub ends :
      Ended (refusals slaves table (length registers) rights (length waits) (length counts) cdm (length cds)) (length cdm)
      (lent (registers_of (memories_after (memories_of table registers rights waits) (row_of cdm))) registers
      ∷ lent (counts_of (memories_after (memories_of table registers rights waits) (row_of cdm))) counts
      ∷ lent (map num (answers_from (memories_of table registers rights waits) (row_of cdm))) cds
      ∷ [])
      outcome (registers' ∷ counts' ∷ cds' ∷ [])
