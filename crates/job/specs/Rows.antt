-- When a job refuses rows, whatever else it asks: refusals 5 to 7.
use Rattle.std.specs.Prelude.{Bool, not, ◌&&◌, ◌||◌, List, [], ◌∷◌, ℕ, ltb, eqb, length}
use Rattle.protocol.specs.Limits.{column_limit}
use Rattle.job.specs.Bytes.{are_bits}
use Rattle.job.specs.Refusals.{Rule, when}

-- 5 "a row of more than 4,096 columns", 6 "two rows of different length", 7 "a row byte that is not 0 or 1": by the lengths of two
-- rows, and whether those of their bytes that are judged are bits.
unfoldable pub row_rules : (columns others : ℕ) → (bits : Bool) → List Rule
row_rules columns others bits =
    when (ltb column_limit columns || ltb column_limit others) 5
    ∷ when (not (eqb columns others)) 6
    ∷ when (not bits) 7
    ∷ []

-- Of two rows whose bytes are judged ..
unfoldable pub wrong_rows : (cdm cds : List ℕ) → List Rule
wrong_rows cdm cds = row_rules (length cdm) (length cds) (are_bits cdm && are_bits cds)

-- .. and of one row, and another that a job will write: "Row bytes overwritten by a job are not judged before it."
unfoldable pub wrong_row : (cdm : List ℕ) → (columns : ℕ) → List Rule
wrong_row cdm columns = row_rules (length cdm) columns (are_bits cdm)
