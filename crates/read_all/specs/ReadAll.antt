-- A night's intake in one call: when it refuses, and what it makes. Request 06: "Take a lent table of jobs, each with its first column,
-- length and opening column, and make all lists into one buffer with the count of each. The outcome equals the calls made singly, in table
-- order." So each job is the single call (read's specs/Read) on its part of the rows.
use Rattle.std.specs.Prelude.{not, List, [], ◌∷◌, ◌++◌, map, ℕ, ◌+◌, ltb, eqb, length, take, drop, Result}
use Rattle.std.proofs.Math.Option.{Option, none, some, or_else}
use Rattle.protocol.specs.Banks.{Banked}
use Rattle.protocol.specs.Layout.{current, list_bytes}
use Rattle.job.specs.Refusals.{of_job, Refusal, refusal, Rule, when, found, first, lent, Ended}
use Rattle.job.specs.declared.Refusal as Returned
use Rattle.read.specs.Read.{list_of, rows_refusals}
use Rattle.read_all.specs.declared.Job.{Job}

-- A job's part of a row: from its first column on, as long as it says.
abbrev pub stretch : Job → (row : List ℕ) → List ℕ
stretch j row = take j.length (drop j.first row)

-- The list that the single call makes of it: the opening column, and every column of an entry, counts from the stretch's first.
unfoldable pub list_for : (cdm cds : List ℕ) → Job → List Banked
list_for cdm cds j = list_of j.opening (stretch j cdm) (stretch j cds)

-- "all lists into one buffer", "in table order" ..
unfoldable pub lists_of : (cdm cds : List ℕ) → List Job → List Banked
lists_of cdm cds [] = []
lists_of cdm cds (j ∷ jobs) = list_for cdm cds j ++ lists_of cdm cds jobs

-- .. "with the count of each".
unfoldable pub counts_of : (cdm cds : List ℕ) → List Job → List ℕ
counts_of cdm cds jobs = map (λ (j : Job). length (list_for cdm cds j)) jobs

-- 20: "a stretch outside the rows" ..
unfoldable pub place_refusals : (columns : ℕ) → Job → List Rule
place_refusals columns j = when (ltb columns (j.first + j.length)) 20 ∷ []

-- .. "then the reader's own", of the stretch alone: 5, 7 and 8, its two parts being of one length.
unfoldable pub own_refusals : (cdm cds : List ℕ) → Job → List Rule
own_refusals cdm cds j = rows_refusals (stretch j cdm) (stretch j cds) j.opening

-- "with the job's number", the table's first being 0 ..
abbrev pub told_of_job : (i : ℕ) → Option Refusal → Option Refusal
told_of_job i none = none
told_of_job i (some (refusal number beside)) = some (refusal number (of_job i))

-- .. "for the first job that has one": of a table whose first job has the number i.
unfoldable pub first_job : (rules : Job → List Rule) → (i : ℕ) → List Job → Option Refusal
first_job rules i [] = none
first_job rules i (j ∷ jobs) = or_else (told_of_job i (first (rules j))) (first_job rules (i + 1) jobs)

-- "32, the count buffer not one per job, first, then 6; 20 with the job's number, a stretch outside the rows; then the reader's own for the
-- first job that has one, with its number; 9 last, for the sum."
unfoldable pub refusals : (cdm cds : List ℕ) → List Job → (room counts : ℕ) → List Rule
refusals cdm cds jobs room counts =
    when (not (eqb counts (length jobs))) 32
    ∷ when (not (eqb (length cdm) (length cds))) 6
    ∷ found 20 (first_job (place_refusals (length cdm)) 0 jobs)
    ∷ found 5 (first_job (own_refusals cdm cds) 0 jobs)
    ∷ when (ltb room (length (list_bytes current (lists_of cdm cds jobs)))) 9
    ∷ []

-- What the call returns, in entries of all lists, and what it leaves in the two lent buffers.
pub record ListedAll (cdm cds : List ℕ) (jobs : List Job) (out counts : List ℕ) (outcome : Result ℕ Returned.Refusal) (after tally : List ℕ) : Type 0 where
  pub ends :
      Ended (refusals cdm cds jobs (length out) (length counts)) (length (lists_of cdm cds jobs))
      (lent (list_bytes current (lists_of cdm cds jobs)) out ∷ lent (counts_of cdm cds jobs) counts ∷ []) outcome (after ∷ tally ∷ [])
