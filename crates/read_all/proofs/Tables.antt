-- What holds of a table of jobs, whatever its jobs: the lists, bytes and counts of two tables one after the other, a job's stretch of the
-- rows, and the first job that is refused. Assumes nothing.
use mathlib.Core.Path.{◌≡◌, refl, sym, ap, ◌∙◌}
use mathlib.Core.List.{List, [], ◌∷◌, ◌++◌, append_assoc, map-append}
use mathlib.Core.Option.{Option, none, some, or_else, none-ne-some}
use Prim.Native.Nat.{ℕ, suc, ◌+◌, ◌≤◌, ◌<◌}
use native.Mathlib.Nat.{add-zero, zero-add}
use native.Mathlib.Omega.{arith}
use borrow.Author.Tests.{ltb-true, ltb-false}
use lib.Dec.{ltb}
use lib.ListN.{length, take, drop, get_elem?, length-map, length-take, length-drop}
use Rattle.protocol.specs.Banks.{Banked}
use Rattle.protocol.specs.Pieces.{joined}
use Rattle.protocol.specs.Layout.{Layout, list_bytes}
use Rattle.laws.proofs.Every.{Every, tested, looked_up}
use Rattle.laws.proofs.Places.{at_drop, every_at}
use Rattle.job.specs.Refusals.{Detail, alone, of_job, Refusal, refusal, Rule, first}
use Rattle.job.proofs.Refusals.{no}
use Rattle.read_all.specs.declared.Job.{Job}
use Rattle.read_all.specs.ReadAll.{stretch, lists_of, counts_of, place_refusals, first_job}

-- What stands behind others stands at their number.
pub at_seam : {A : Type 0} (xs : List A) (y : A) (ys : List A) → get_elem? (xs ++ y ∷ ys) (length xs) ≡ some y
at_seam [] y ys = refl
at_seam (x ∷ xs) y ys = at_seam xs y ys

-- The bytes of two lists, one after the other.
pub bytes_append : (l : Layout) (es ds : List Banked) → list_bytes l (es ++ ds) ≡ list_bytes l es ++ list_bytes l ds
unfolding list_bytes joined
bytes_append l [] ds = refl
bytes_append l (e ∷ es) ds = rw (bytes_append l es ds, append_assoc)

module _ (cdm cds : List ℕ) where
  -- The lists of two tables, one after the other ..
  pub lists_append : (before behind : List Job) → lists_of cdm cds (before ++ behind) ≡ lists_of cdm cds before ++ lists_of cdm cds behind
  unfolding lists_of
  lists_append [] behind = refl
  lists_append (j ∷ before) behind = rw (lists_append before behind, append_assoc)

  -- .. and their counts, of which there is one a job.
  pub counts_append : (before behind : List Job) → counts_of cdm cds (before ++ behind) ≡ counts_of cdm cds before ++ counts_of cdm cds behind
  unfolding counts_of
  counts_append before behind = map-append _ before behind

  pub length_counts : (jobs : List Job) → length (counts_of cdm cds jobs) ≡ length jobs
  unfolding counts_of
  length_counts jobs = length-map jobs _

  -- Two rows of one length have stretches of one length.
  pub same_stretch : (j : Job) → length cdm ≡ length cds → length (stretch j cdm) ≡ length (stretch j cds)
  same_stretch j e = simp (length-take, length-drop, e)

-- 20 is given exactly of a stretch that ends behind the last column.
module _ (columns : ℕ) (j : Job) where
  pub within : first (place_refusals columns j) ≡ none → j.first + j.length ≤ columns
  unfolding place_refusals
  within e = ltb-false _ _ (no 20 _ e)

  pub past_end : {number : ℕ} {beside : Detail} → first (place_refusals columns j) ≡ some (refusal number beside)
      → (number ≡ 20) × (columns < j.first + j.length)
  unfolding place_refusals first
  past_end {number} {beside} e =
      tested (ltb columns (j.first + j.length))
      (λ held. let is : some (refusal 20 alone) ≡ some (refusal number beside) = rw held at e in (cc, ltb-true _ _ held))
      (λ failed. absurd (none-ne-some _ (rw failed at e)))

-- What holds of every job of a table, in other words.
pub every_as : {P Q : Job → Type 0} → ((j : Job) → P j → Q j) → (jobs : List Job) → Every P jobs → Every Q jobs
every_as f [] q = tt
every_as f (j ∷ jobs) q = (f j q.0, every_as f jobs q.1)

-- The first job of a table that is refused, by its place: what is known of it, and of each job before it ..
pub record FirstAt (Refused Clear : Job → Type 0) (jobs : List Job) (place : ℕ) : Type 0 where
  pub job : Job
  pub there : get_elem? jobs place ≡ some job
  pub refused : Refused job
  pub before : Every Clear (take place jobs)

-- .. in other words.
pub first_as : {P Q R S : Job → Type 0} {jobs : List Job} {place : ℕ} → ((j : Job) → P j → R j) → ((j : Job) → Q j → S j)
    → FirstAt P Q jobs place → FirstAt R S jobs place
first_as {jobs} {place} f g at =
    record { job = at.job; there = at.there; refused = f at.job at.refused; before = every_as g (take place jobs) at.before }

module _ (rules : Job → List Rule) where
  -- A job is let through by its rules, or refused by a number.
  abbrev pub Through : Job → Type 0
  Through j = first (rules j) ≡ none

  abbrev pub By : (number : ℕ) → Job → Type 0
  By number j = (beside : Detail) × (first (rules j) ≡ some (refusal number beside))

  module _ (i : ℕ) (j : Job) (jobs : List Job) where
    -- A job that is let through leaves it to those behind it whether one is refused ..
    pub not_here : first (rules j) ≡ none → first_job rules i (j ∷ jobs) ≡ first_job rules (i + 1) jobs
    unfolding first_job or_else
    not_here e = rw e

    -- .. and one that is refused is told.
    pub here : {number : ℕ} {beside : Detail} → first (rules j) ≡ some (refusal number beside)
        → first_job rules i (j ∷ jobs) ≡ some (refusal number (of_job i))
    unfolding first_job or_else
    here e = rw e

  -- Where no job is told every one is let through, and so the one at a place.
  pub every_through : (i : ℕ) (jobs : List Job) → first_job rules i jobs ≡ none → Every Through jobs
  every_through i [] e = tt
  every_through i (j ∷ jobs) e =
      looked_up (first (rules j)) (λ through. (through, every_through (i + 1) jobs (sym (not_here i j jobs through) ∙ e))) stopped
    where
      stopped : (r : Refusal) → first (rules j) ≡ some r → Every Through (j ∷ jobs)
      stopped (refusal number beside) why = absurd (none-ne-some _ (sym e ∙ here i j jobs why))

  pub through_at : (i : ℕ) (j : Job) (jobs behind : List Job) → first_job rules 0 jobs ≡ none → drop i jobs ≡ j ∷ behind → Through j
  through_at i j jobs behind e h =
      every_at Through jobs i j (every_through 0 jobs e) (rw add-zero at (sym (at_drop i jobs 0)) ∙ ap (λ (l : List Job). get_elem? l 0) h)

  -- The one that is told is the first of those that are refused.
  abbrev ToldFrom : (i : ℕ) → List Job → (number : ℕ) → Detail → Type 0
  ToldFrom i jobs number told = (place : ℕ) × (told ≡ of_job (i + place)) × FirstAt (By number) Through jobs place

  told_from : (i : ℕ) (jobs : List Job) (number : ℕ) (told : Detail) → first_job rules i jobs ≡ some (refusal number told)
      → ToldFrom i jobs number told
  unfolding first_job
  told_from i [] number told e = absurd (none-ne-some _ e)
  told_from i (j ∷ jobs) number told e = go (first (rules j)) refl (told_from (i + 1) jobs number told)
    where
      go : (f : Option Refusal) → first (rules j) ≡ f → (first_job rules (i + 1) jobs ≡ some (refusal number told) → ToldFrom (i + 1) jobs number told)
          → ToldFrom i (j ∷ jobs) number told
      go none clear behind =
          let (place, is, at) = behind (sym (not_here i j jobs clear) ∙ e) in
          let on : i + 1 + place ≡ i + suc place = omega arith in (
            suc place,
            is ∙ ap of_job on,
            record { job = at.job; there = at.there; refused = at.refused; before = (clear, at.before) },
          )
      go (some (refusal n beside)) why behind =
          let same = sym (here i j jobs why) ∙ e in
          let number_is : n ≡ number = cc in
          (0, rw add-zero (cc), record { job = j; there = refl; refused = (beside, rw (← number_is) why); before = tt })

  pub first_told : (jobs : List Job) (number i : ℕ) → first_job rules 0 jobs ≡ some (refusal number (of_job i)) → FirstAt (By number) Through jobs i
  first_told jobs number i e =
      let (place, is, at) = told_from 0 jobs number (of_job i) e in
      let same : i ≡ place = cc (zero-add place) in
      rw same at
