-- What the passes over a table do, for their contracts: nothing here is needed to read what the call promises.
use Rattle.std.specs.Prelude.{◌≡◌, not, List, [], ◌∷◌, ℕ, ◌+◌, ltb, eqb, length, drop, Result, Ok, Err}
use Rattle.std.proofs.lemmas.List.Edits.{sets}
use Rattle.std.proofs.Math.Option.{Option, none, some}
use Rattle.protocol.specs.Layout.{current, list_bytes}
use Rattle.job.specs.Refusals.{Refusal, Rule, when, refusal_of}
use Rattle.job.specs.declared.Refusal as Returned
use Rattle.read.specs.Parts.{kept_all}
use Rattle.read_all.specs.declared.Job.{Job}
use Rattle.read_all.specs.ReadAll.{lists_of, counts_of, place_refusals, own_refusals, first_job}

-- What a pass is stopped by.
abbrev pub stopped : {A : Type 0} → Result A Returned.Refusal → Option Refusal
stopped (Ok a) = none
stopped (Err r) = some (refusal_of r)

-- 32 and 6, by the lengths alone.
unfoldable pub length_refusals : (columns others jobs counts : ℕ) → List Rule
length_refusals columns others jobs counts = when (not (eqb counts jobs)) 32 ∷ when (not (eqb columns others)) 6 ∷ []

-- 9 for all lists together.
unfoldable pub room_refusals : (cdm cds : List ℕ) → List Job → (room : ℕ) → List Rule
room_refusals cdm cds jobs room = when (ltb room (length (list_bytes current (lists_of cdm cds jobs)))) 9 ∷ []

-- The columns of all stretches ..
unfoldable pub columns_of : List Job → ℕ
columns_of [] = 0
columns_of (j ∷ jobs) = j.length + columns_of jobs

-- .. and the entries.
abbrev pub entries_of : (cdm cds : List ℕ) → List Job → ℕ
entries_of cdm cds jobs = length (lists_of cdm cds jobs)

-- Every stretch of a table lies within the rows ..
pub record Placed (columns : ℕ) (jobs : List Job) : Type 0 where
  pub inside : first_job (place_refusals columns) 0 jobs ≡ none

-- .. and the reader refuses none.
pub record Good (cdm cds : List ℕ) (jobs : List Job) : Type 0 where
  pub placed : Placed (length cdm) jobs
  pub clear : first_job (own_refusals cdm cds) 0 jobs ≡ none

-- What is known behind i jobs of a pass, that what is left comes to the same as all: of a pass that stops at the first refused job, ..
abbrev pub Searched : (rules : Job → List Rule) → List Job → (i : ℕ) → Type 0
Searched rules jobs i = first_job rules i (drop i jobs) ≡ first_job rules 0 jobs

-- .. of one that looks whether all jobs together have room, each so many cells, ..
abbrev pub Filled : (needs : List Job → ℕ) → List Job → (room left i : ℕ) → Type 0
Filled needs jobs room left i = needs jobs + left ≡ room + needs (drop i jobs)

-- .. and of the one that writes: how many entries there are, and what stands in the two lent buffers.
pub record Written (cdm cds : List ℕ) (jobs : List Job) (lent tally : List ℕ) (i made : ℕ) (out counts : List ℕ) : Type 0 where
  pub left : made + entries_of cdm cds (drop i jobs) ≡ entries_of cdm cds jobs
  pub laid : kept_all out made (lists_of cdm cds (drop i jobs)) ≡ kept_all lent 0 (lists_of cdm cds jobs)
  pub tallied : sets counts i (counts_of cdm cds (drop i jobs)) ≡ sets tally 0 (counts_of cdm cds jobs)
