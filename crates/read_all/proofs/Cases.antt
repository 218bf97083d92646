-- Worked tables over one small recording, each outcome worked out from request 06 by hand: the order of the refusals, and the column that
-- a job's columns count from. By computation. Assumes nothing.
--
--   column  0 .. 15  16  17 .. 25     26
--           zeros    S   header, IDL  a byte that is no bit
use mathlib.Core.Path.{◌≡◌, refl}
use mathlib.Core.List.{List, [], ◌∷◌, ◌++◌, map}
use mathlib.Core.Option.{Option, none, some, or_else}
use Prim.Native.Nat.{ℕ}
use lib.ListN.{replicate}
use Rattle.protocol.specs.Bits.{row_of, push}
use Rattle.protocol.specs.Rest.{judge, timer}
use Rattle.protocol.specs.Entries.{Kind, event}
use Rattle.protocol.specs.Banks.{Banked, learnt, bank_of, banked}
use Rattle.protocol.specs.Pieces.{in_bytes, joined}
use Rattle.protocol.specs.Layout.{field_bytes, bytes_of, list_bytes}
use Rattle.protocol.specs.Reader
use Rattle.job.specs.Bytes.{none_above, are_bits}
use Rattle.job.specs.Refusals.{alone, of_job, Refusal, refusal, first}
use Rattle.job.specs.Rows.{row_rules, wrong_rows}
use Rattle.read.specs.Read.{list_of, rows_refusals}
use Rattle.read_all.specs.declared.Job.{Job}
use Rattle.read_all.specs.ReadAll.{list_for, lists_of, counts_of, place_refusals, own_refusals, first_job, refusals}

abbrev cdm : List ℕ
cdm = replicate 16 0 ++ 1 ∷ replicate 9 0 ++ 2 ∷ []

abbrev cds : List ℕ
cds = replicate 27 0

abbrev job : (first length opening : ℕ) → Job
job first length opening = record { first = first; length = length; opening = opening }

-- A lock in the last column of IDL, fourteen zeros before S, and the same with sixteen; with the byte that is no bit; opened behind its
-- end; ending behind the rows; empty, at their end.
data Name : Type 0 where
  shown sooner wrong late long empty : Name

abbrev job_of : Name → Job
job_of shown = job 2 24 0
job_of sooner = job 0 26 0
job_of wrong = job 20 7 0
job_of late = job 0 3 4
job_of long = job 26 2 0
job_of empty = job 27 0 0

abbrev lock : (column start : ℕ) → Banked
lock column start = record { entry = record { place = record { column = column; start = start }; event = event Kind.lock 0 0 0 }; bank = 0 }

abbrev given : List Name → (room counts : ℕ) → Option Refusal
given names room counts = first (refusals cdm cds (map job_of names) room counts)

tables_hold :
    -- 20 of a later job before 7 of an earlier one, and 32 before both
    (given (wrong ∷ shown ∷ long ∷ []) 9 3 ≡ some (refusal 20 (of_job 2)))
    × (given (wrong ∷ shown ∷ long ∷ []) 9 2 ≡ some (refusal 32 alone))
    -- 7 or 8 of the first job that has one, before 9 of all
    × (given (shown ∷ wrong ∷ late ∷ []) 0 3 ≡ some (refusal 7 (of_job 1)))
    × (given (shown ∷ late ∷ wrong ∷ []) 0 3 ≡ some (refusal 8 (of_job 1)))
    -- 9 for the sum
    × (given (shown ∷ empty ∷ sooner ∷ []) 17 3 ≡ some (refusal 9 alone))
    × (given (shown ∷ empty ∷ sooner ∷ []) 18 3 ≡ none)
    -- columns count from a stretch's first
    × (lists_of cdm cds (map job_of (shown ∷ empty ∷ sooner ∷ [])) ≡ lock 23 14 ∷ lock 25 16 ∷ [])
    -- each with its own count
    × (counts_of cdm cds (map job_of (shown ∷ empty ∷ sooner ∷ [])) ≡ 1 ∷ 0 ∷ 1 ∷ [])
unfolding refusals first_job place_refusals own_refusals rows_refusals wrong_rows row_rules are_bits none_above first or_else lists_of counts_of list_for list_of row_of list_bytes joined bytes_of field_bytes in_bytes push judge timer Reader.seen Reader.locked Reader.look Reader.step Reader.columns Reader.entries Reader.entries_from Reader.list_from banked learnt bank_of
tables_hold = (refl, refl, refl, refl, refl, refl, refl, refl)
