-- The job read: when it refuses, and what it lists. The reader itself is protocol's (specs/Reader).
use Rattle.std.specs.Prelude.{List, [], ◌∷◌, ◌++◌, ℕ, ltb, length, Result}
use Rattle.protocol.specs.Bits.{row_of}
use Rattle.protocol.specs.Banks.{Banked}
use Rattle.protocol.specs.Layout.{current, list_bytes}
use Rattle.protocol.specs.Reader.{columns, list_from}
use Rattle.job.specs.Refusals.{Rule, when, lent, Ended}
use Rattle.job.specs.Rows.{wrong_rows}
use Rattle.job.specs.declared.Refusal.{Refusal}

-- The entries, with their banks, that two recorded rows show to a reader let in at column k.
unfoldable pub list_of : (k : ℕ) → (cdm cds : List ℕ) → List Banked
list_of k cdm cds = list_from k (columns (row_of cdm) (row_of cds))

-- "Read: 5, 6, 7, 8, 9." 5 to 7 are those of any rows (job's specs/Rows); 8: "opening column greater than the length" ..
unfoldable pub rows_refusals : (cdm cds : List ℕ) → (k : ℕ) → List Rule
rows_refusals cdm cds k = wrong_rows cdm cds ++ when (ltb (length cdm) k) 8 ∷ []

-- .. and 9: "the result needs more room than was lent, and only then".
unfoldable pub refusals : (cdm cds : List ℕ) → (k room : ℕ) → List Rule
refusals cdm cds k room =
    rows_refusals cdm cds k ++ when (ltb room (length (list_bytes current (list_of k cdm cds)))) 9 ∷ []

-- What read returns, in entries, and what it leaves in the lent buffer.
pub record Listed (cdm cds : List ℕ) (k : ℕ) (out : List ℕ) (outcome : Result ℕ Refusal) (after : List ℕ) : Type 0 where
  pub ends :
      Ended (refusals cdm cds k (length out)) (length (list_of k cdm cds)) (lent (list_bytes current (list_of k cdm cds)) out ∷ []) outcome
      (after ∷ [])
