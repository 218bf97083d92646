-- A command behind its header: whom it concerns, and where its acknowledgement and its execution stand. Columns count from its S.
--
--   column after S        0      1     ..  7      8
--   addressed,   CDM      S                       EX
--                CDS      IDA0   IDA1  ..  IDA7
--   broadcast,   CDM      S      EX
use Rattle.std.specs.Prelude.{Bool, cond, ◌&&◌, ◌||◌, List, [], ◌∷◌, ℕ, ◌-◌, ltb, leb, eqb}
use Rattle.std.proofs.Math.Option.{Option, none, some}
use Rattle.protocol.specs.Limits.{id_count, acknowledge_first, execute_addressed, execute_broadcast}
use Rattle.protocol.specs.Bits.{bit}

-- "IDS = 0 is a broadcast."
abbrev pub broadcast : (ids : ℕ) → Bool
broadcast ids = eqb ids 0

-- 000: "Each IDS bit represents one of the .. BiSS Slave ID starting with BiSS Slave ID = 0": the first that is sent, the highest, is ID 0's.
unfoldable pub selects : (ids id : ℕ) → Bool
selects ids id = bit (id_count - 1 - id) ids

-- 000: "4 different commands".
abbrev pub codes : List ℕ
codes = 0 ∷ 1 ∷ 2 ∷ 3 ∷ []

-- 000: a command goes to the "BiSS Slaves addressed by IDS"; a broadcast to all, "even those without a valid BiSS Slave ID": of a slave by
-- its number ..
abbrev pub concerns : (ids : ℕ) → (number : Option ℕ) → Bool
concerns ids none = broadcast ids
concerns ids (some id) = broadcast ids || selects ids id

-- .. and by its place in the chain: "slaves past the eighth have none".
abbrev pub concerns_at : (ids place : ℕ) → Bool
concerns_at ids place = broadcast ids || (ltb place id_count && selects ids place)

-- 000: "the IDA bits represent the BiSS Slaves in ascending order starting with BiSS Slave ID = 0", and each that IDS addresses sets its own:
-- the answer of a column, where the IDs below `locked` are held.
unfoldable pub acknowledgement : (column ids locked : ℕ) → Bool
acknowledgement column ids locked =
    leb acknowledge_first column
    && (ltb (column - acknowledge_first) locked && selects ids (column - acknowledge_first))

-- Where EX stands: the column after S.
unfoldable pub execute_column : (ids : ℕ) → ℕ
execute_column ids = cond (broadcast ids) execute_broadcast execute_addressed
