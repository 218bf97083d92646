-- "The outcome equals the calls made singly, in table order", for any table: where all is made, a job's count and list are those of the
-- single call on its stretch; where a job is told, the single call on its stretch is refused alike, or its stretch ends behind the rows.
-- Assumes nothing.
use mathlib.Core.Path.{◌≡◌, refl, sym, ap, ◌∙◌}
use mathlib.Core.Bool.{Bool, true, false}
use mathlib.Core.List.{List, [], ◌∷◌, ◌++◌, append_assoc}
use mathlib.Core.Option.{Option, none, some, or_else, none-ne-some}
use Prim.Native.Nat.{ℕ, ◌+◌, ◌*◌, ◌≤◌, ◌<◌}
use native.Mathlib.Omega.{arith}
use borrow.Author.Tests.{eq-eqb, eqb-true, not-false, le-ltb}
use lib.ListN.{length, take, drop, get_elem?}
use lib.Seq.{take-append_seam, drop-append_seam}
use Rattle.std.specs.Prelude.{Result, Ok, Err}
use Rattle.protocol.specs.Pieces.{joined}
use Rattle.protocol.specs.Layout.{current, entry_bytes, list_bytes}
use Rattle.protocol.proofs.Codec.{length_list}
use Rattle.laws.proofs.Every.{Every}
use Rattle.laws.proofs.Places.{every_at}
use Rattle.job.specs.Refusals.{Detail, alone, of_job, Refusal, refusal, when, found, first, number, lent, lent_after}
use Rattle.job.specs.Rows.{row_rules, wrong_rows}
use Rattle.job.specs.declared.Reason.{Reason}
use Rattle.job.specs.declared.Refusal as Returned
use Rattle.job.specs.declared.Detail.TheVariants.{Alone, OfJob}
use Rattle.job.proofs.Refusals.{no, keeps, result_first, ended_refused, ended_made, was_made, was_refused, ended_none, ended_unique}
use Rattle.read.specs.Read as read
use Rattle.read.specs.Read.{rows_refusals, Listed}
use Rattle.read.proofs.Ends.{not_refused}
use Rattle.read_all.specs.declared.Job.{Job}
use Rattle.read_all.specs.ReadAll.{stretch, list_for, lists_of, counts_of, own_refusals, first_job, refusals, ListedAll}
use Rattle.read_all.proofs.Tables.{bytes_append, lists_append, counts_append, length_counts, at_seam, same_stretch, within, past_end, every_as, FirstAt, first_as, Through, By, every_through, first_told}

-- The single call on a job's stretch.
abbrev pub Singly : (cdm cds : List ℕ) → Job → (out : List ℕ) → Result ℕ Returned.Refusal → (after : List ℕ) → Type 0
Singly cdm cds j out outcome after = Listed (stretch j cdm) (stretch j cds) j.opening out outcome after

-- So far into the buffer the lists of a table reach.
abbrev pub reach : (cdm cds : List ℕ) → List Job → ℕ
reach cdm cds jobs = length (list_bytes current (lists_of cdm cds jobs))

-- Where all is made, of each job of the table:
module _ {cdm cds out counts after tally : List ℕ} {m : ℕ} (before : List Job) (j : Job) (behind : List Job)
    (all : ListedAll cdm cds (before ++ j ∷ behind) out counts (Ok m) after tally) where
  -- its count stands at its place ..
  pub count_there : get_elem? tally (length before) ≡ some (length (list_for cdm cds j))
  unfolding lent_after counts_of
  count_there =
      let is : tally ≡ lent_after none (lent (counts_of cdm cds (before ++ j ∷ behind)) counts) = cc (was_made all.ends).2 in
      rw (← length_counts cdm cds before, is, counts_append cdm cds before (j ∷ behind), append_assoc, at_seam)

  -- .. and its list behind those of the jobs before it.
  pub list_there : take (length (list_bytes current (list_for cdm cds j))) (drop (reach cdm cds before) after) ≡ list_bytes current (list_for cdm cds j)
  unfolding lent_after lists_of
  list_there =
      let is : after ≡ lent_after none (lent (list_bytes current (lists_of cdm cds (before ++ j ∷ behind))) out) = cc (was_made all.ends).2 in
      rw (is, lists_append cdm cds before (j ∷ behind), bytes_append, bytes_append, append_assoc, append_assoc, drop-append_seam)
      (take-append_seam _ _)

  -- The single call that is made says the same count, and leaves the same bytes ..
  pub as_single : {room left : List ℕ} {n : ℕ} → Singly cdm cds j room (Ok n) left
      → (get_elem? tally (length before) ≡ some n)
      × (take (entry_bytes current * n) (drop (reach cdm cds before) after) ≡ take (entry_bytes current * n) left)
  unfolding list_for
  as_single {room} {left} {n} single =
      let made = was_made single.ends in
      let count : n ≡ length (list_for cdm cds j) = made.1 in
      let is : left ≡ lent_after none (lent (list_bytes current (list_for cdm cds j)) room) = cc made.2 in
      rw (count, ← length_list current (list_for cdm cds j), is)
      (count_there, list_there ∙ sym (result_first (list_bytes current (list_for cdm cds j)) room))

  -- .. and it is made wherever it has room.
  pub single_made : {room left : List ℕ} {outcome : Result ℕ Returned.Refusal} → Singly cdm cds j room outcome left
      → length (list_bytes current (list_for cdm cds j)) ≤ length room → outcome ≡ Ok (length (list_for cdm cds j))
  unfolding list_for refusals own_refusals
  single_made {room} single enough =
      let through = every_through (own_refusals cdm cds) 0 _ (no 5 _ (was_made all.ends).0) in
      let own : first (own_refusals cdm cds j) ≡ none
      = every_at (λ j. first (own_refusals cdm cds j) ≡ none) (before ++ j ∷ behind) (length before) j through (at_seam before j behind) in
      ended_none single.ends (not_refused _ _ j.opening room own enough)

-- The reader's own numbers; 6 is none of them, since two rows of one length have stretches of one length.
pub data Own (number : ℕ) : Type 0 where
  five : number ≡ 5 → Own number
  seven : number ≡ 7 → Own number
  eight : number ≡ 8 → Own number

-- A stretch lies within the rows.
abbrev pub Within : (columns : ℕ) → Job → Type 0
Within columns j = j.first + j.length ≤ columns

-- The single call on a job's stretch is refused for a reason, whatever is lent to it.
abbrev pub RefusedBy : (cdm cds : List ℕ) → Reason → Job → Type 0
RefusedBy cdm cds reason j =
    (out after : List ℕ) (outcome : Result ℕ Returned.Refusal) → Singly cdm cds j out outcome after
    → outcome ≡ Err (record { reason = reason; beside = Alone })

-- What it says that a job is told with a reason: 20, and its stretch is the first of the table that ends behind the rows; or one of the
-- reader's own, every stretch lies within the rows, the single call on this one is refused alike, and no job before it has a refusal.
pub data Told (cdm cds : List ℕ) (jobs : List Job) (reason : Reason) (place : ℕ) : Type 0 where
  outside : number reason ≡ 20 → FirstAt (λ j. length cdm < j.first + j.length) (Within (length cdm)) jobs place → Told cdm cds jobs reason place
  alike : Own (number reason) → Every (Within (length cdm)) jobs → FirstAt (RefusedBy cdm cds reason) (Through (own_refusals cdm cds)) jobs place
      → Told cdm cds jobs reason place

-- What the reader's rules give where the rows are of one length.
own_number : (long bad late : Bool) (number : ℕ) (beside : Detail)
    → first (when long 5 ∷ when false 6 ∷ when bad 7 ∷ when late 8 ∷ []) ≡ some (refusal number beside)
    → Own number × (refusal number beside ≡ refusal number alone)
unfolding first
own_number true bad late number beside e = (five (cc), cc)
own_number false true late number beside e = (seven (cc), cc)
own_number false false true number beside e = (eight (cc), cc)
own_number false false false number beside e = absurd (none-ne-some _ e)

module _ (cdm cds : List ℕ) (even : length cdm ≡ length cds) (reason : Reason) (j : Job) where
  -- A job's own refusal is the single call's.
  own_refusal : By (own_refusals cdm cds) (number reason) j → Own (number reason) × RefusedBy cdm cds reason j
  unfolding own_refusals rows_refusals wrong_rows row_rules read.refusals
  own_refusal by =
      let own = own_number _ _ _ (number reason) by.0 (rw (eq-eqb _ _ (same_stretch cdm cds j even)) at by.1) in
      let alone_given = by.1 ∙ ap some own.1 in (
        own.0,
        λ out after outcome single. (ended_unique single.ends (ended_refused _ _ _ _ (keeps _ _ _ alone_given))).0,
      )

-- A job is told by one of the two searches, and then the rows are of one length.
searched : {Q : Type 0} (number place : ℕ) (several uneven crowded : Bool) (placing judging : Option Refusal)
    → first (when several 32 ∷ when uneven 6 ∷ found 20 placing ∷ found 5 judging ∷ when crowded 9 ∷ [])
    ≡ some (refusal number (of_job place))
    → (placing ≡ some (refusal number (of_job place)) → Q)
    → (uneven ≡ false → placing ≡ none → judging ≡ some (refusal number (of_job place)) → Q) → Q
unfolding first or_else
searched number place true uneven crowded placing judging e p q = absurd (let z : ◌≡◌ {A = ℕ} 0 1 = cc in omega arith)
searched number place false true crowded placing judging e p q = absurd (let z : ◌≡◌ {A = ℕ} 0 1 = cc in omega arith)
searched number place false false crowded (some r) judging e p q = p e
searched number place false false crowded none (some r) e p q = q refl refl e
searched number place false false true none none e p q = absurd (let z : ◌≡◌ {A = ℕ} 0 1 = cc in omega arith)
searched number place false false false none none e p q = absurd (none-ne-some _ e)

-- No job is told otherwise.
pub job_told : {cdm cds : List ℕ} {jobs : List Job} {reason : Reason} {place : ℕ} {out counts after tally : List ℕ}
    → ListedAll cdm cds jobs out counts (Err (record { reason = reason; beside = OfJob place })) after tally → Told cdm cds jobs reason place
unfolding refusals
job_told {cdm} {cds} {jobs} {reason} {place} all =
    searched (number reason) place _ _ _ _ _ (was_refused all.ends)
    (λ placing.
    let at = first_told _ jobs (number reason) place placing in
    outside (past_end (length cdm) at.job at.refused.1).0
    (first_as (λ j by. (past_end (length cdm) j by.1).1) (within (length cdm)) at))
    (λ same clear judging.
    let own = own_refusal cdm cds (eqb-true _ _ (not-false _ same)) reason in
    let at = first_told _ jobs (number reason) place judging in
    alike (own at.job at.refused).0 (every_as (within (length cdm)) jobs (every_through _ 0 jobs clear))
    (first_as (λ j by. (own j by).1) (λ j clear. clear) at))

-- An empty table is made, with no entry, and changes nothing.
pub empty_table : {cdm cds out after tally : List ℕ} {outcome : Result ℕ Returned.Refusal} → length cdm ≡ length cds
    → ListedAll cdm cds [] out [] outcome after tally → (outcome ≡ Ok 0) × (after ≡ out) × (tally ≡ [])
unfolding refusals first_job lists_of counts_of list_bytes joined first or_else lent_after
empty_table {cdm} {cds} {out} even all =
    let none_given : first (refusals cdm cds [] (length out) 0) ≡ none = rw (eq-eqb _ _ even, le-ltb (length out) 0 (omega arith)) in
    let same = ended_unique all.ends (ended_made _ _ _ 0 (out ∷ [] ∷ []) none_given refl refl) in
    (same.0, cc, cc)
