-- How a job refuses, and how it ends. Paper 01, Numbers of refusal: "Numbers are tried in the order written for each job; a number is
-- given exactly when its condition holds and no earlier one's does." A job says its rules in that order, how many it makes, and what is to
-- stand in the buffers that are lent to it; the rest is said here.
use Rattle.std.specs.Prelude.{◌≡◌, Bool, cond, List, [], ◌∷◌, ◌++◌, map, ℕ, length, drop, Result, Ok, Err}
use Rattle.std.proofs.Math.Option.{Option, none, some, or_else}
use Rattle.job.specs.declared.Reason.{Reason}
use Rattle.job.specs.declared.Reason.TheVariants as Reasons
use Rattle.job.specs.declared.Detail as Code
use Rattle.job.specs.declared.Detail.TheVariants.{Alone, OnLine, OfJob}
use Rattle.job.specs.declared.Refusal as Returned

-- What is told beside a refusal's number: nothing; or a line, "counted from 1", and (request 01) "the place in the line as well, counted in
-- bytes from 0"; or (request 06) "the job's number", the table's first being 0.
pub data Detail : Type 0 where
  alone : Detail
  on_line : (line byte : ℕ) → Detail
  of_job : (job : ℕ) → Detail

-- "A refusal returns its number", and what is told beside it.
pub data Refusal : Type 0 where
  refusal : (number : ℕ) → Detail → Refusal

-- One of a job's refusals: a condition and its number; or what a search found, a number with what is told beside it or nothing, under the
-- first number that it can find.
pub data Rule : Type 0 where
  when : (condition : Bool) → (number : ℕ) → Rule
  found : (label : ℕ) → Option Refusal → Rule

-- "Numbers are tried in the order written": what a list of rules gives.
unfoldable pub first : List Rule → Option Refusal
first [] = none
first (when condition number ∷ rules) = cond condition (some (refusal number alone)) (first rules)
first (found label f ∷ rules) = or_else f (first rules)

-- The number in the table of each of the code's reasons.
abbrev pub number : Reason → ℕ
number Reasons.TooManySlaves = 1
number Reasons.WrongRegisters = 2
number Reasons.WrongRights = 3
number Reasons.RightTooHigh = 4
number Reasons.TooManyColumns = 5
number Reasons.RowsDiffer = 6
number Reasons.NotABit = 7
number Reasons.OpeningBehind = 8
number Reasons.NoRoom = 9
number Reasons.OutOfRange = 10
number Reasons.NotAList = 12
number Reasons.WrongHeader = 13
number Reasons.WrongDigit = 14
number Reasons.NoTab = 15
number Reasons.NoFeed = 16
number Reasons.TextCut = 17
number Reasons.WrongWaits = 18
number Reasons.WrongBanks = 19
number Reasons.OutsideRows = 20
number Reasons.WrongCounts = 21
number Reasons.WrongTally = 32

-- What the code hands on where it refuses for a reason, and where it does not.
abbrev pub given : {A : Type 0} → Result A Reason → Option Refusal
given (Ok a) = none
given (Err reason) = some (refusal (number reason) alone)

-- "Success returns how many columns, bytes or entries were made".
pub data Ending : Type 0 where
  made : (count : ℕ) → Ending
  refused : Refusal → Ending

-- The end of a job, by what its rules give.
abbrev pub ending : Option Refusal → (count : ℕ) → Ending
ending none count = made count
ending (some r) count = refused r

-- This paper's number and values for each case of what the code returns: what is told beside the number ..
abbrev pub detail : Code.Detail → Detail
detail Alone = alone
detail (OnLine line byte) = on_line line byte
detail (OfJob job) = of_job job

-- .. all of it ..
abbrev pub refusal_of : Returned.Refusal → Refusal
refusal_of r = refusal (number r.reason) (detail r.beside)

-- .. and the end.
abbrev pub told : Result ℕ Returned.Refusal → Ending
told (Ok count) = made count
told (Err r) = refused (refusal_of r)

-- A lent buffer: what is to stand at its start, and its bytes as they were lent.
pub data Lent : Type 0 where
  lent : (result before : List ℕ) → Lent

-- What it holds afterwards: a refusal "changes no lent byte", and of a success "bytes past them stay".
unfoldable pub lent_after : Option Refusal → Lent → List ℕ
lent_after none (lent result before) = result ++ drop (length result) before
lent_after (some r) (lent result before) = before

-- What a job with these rules returns, and what it leaves in the buffers that were lent to it.
pub record Ended (rules : List Rule) (count : ℕ) (buffers : List Lent) (outcome : Result ℕ Returned.Refusal) (after : List (List ℕ)) : Type 0 where
  pub tells : told outcome ≡ ending (first rules) count
  pub leaves : after ≡ map (lent_after (first rules)) buffers
