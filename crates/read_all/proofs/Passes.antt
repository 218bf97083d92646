-- One job more in each pass: what is known behind i jobs is known behind it too, or the pass ends there. Assumes nothing.
use mathlib.Core.Path.{◌≡◌, sym, ap, ◌∙◌}
use mathlib.Core.List.{List, [], ◌∷◌}
use mathlib.Core.Option.{none, some}
use Prim.Native.Nat.{ℕ, ◌+◌, ◌-◌, ◌/◌, ◌≤◌, ◌<◌}
use native.Mathlib.Numerals.{add-one}
use native.Mathlib.Omega.{arith}
use borrow.Author.Tests.{lt-ltb, le-ltb}
use lib.ListN.{length, drop, get_or, set, length-append, length-take, drop_of_length-le}
use lib.Seq.{sets, drop-cons}
use Rattle.protocol.specs.Banks.{Banked}
use Rattle.protocol.specs.Layout.{current, entry_bytes, list_bytes}
use Rattle.protocol.proofs.Codec.{length_list}
use Rattle.job.specs.Refusals.{Detail, alone, of_job, refusal, Rule, first}
use Rattle.read.specs.Parts.{Rows, kept_all}
use Rattle.read.proofs.Ends.{rows_through}
use Rattle.read.proofs.Kept.{kept_append}
use Rattle.read.proofs.Left.{length_listed}
use Rattle.read_all.specs.declared.Job.{Job}
use Rattle.read_all.specs.ReadAll.{stretch, list_for, lists_of, counts_of, place_refusals, own_refusals, first_job}
use Rattle.read_all.specs.Passes.{room_refusals, columns_of, entries_of, Placed, Good, Searched, Filled, Written}
use Rattle.read_all.proofs.Tables as Tables
use Rattle.read_all.proofs.Tables.{not_here, through_at}

-- No list has more entries than its stretch has columns, and so all of them together.
few_entries : (cdm cds : List ℕ) (j : Job) → length (list_for cdm cds j) ≤ j.length
unfolding list_for
few_entries cdm cds j =
    omega (arith, length_listed j.opening (stretch j cdm) (stretch j cds), length-take j.length (drop j.first cdm))

pub few_lists : (cdm cds : List ℕ) (jobs : List Job) → entries_of cdm cds jobs ≤ columns_of jobs
unfolding lists_of columns_of
few_lists cdm cds [] = omega arith
few_lists cdm cds (j ∷ jobs) =
    omega (arith, few_entries cdm cds j, few_lists cdm cds jobs, length-append (list_for cdm cds j) (lists_of cdm cds jobs))

-- The job at a place of the table.
module _ (jobs : List Job) (i : ℕ) (there : i < length jobs) where
  abbrev here : Job
  here = get_or jobs i (record { first = 0; length = 0; opening = 0 })

  abbrev rest : List Job
  rest = drop (i + 1) jobs

  stands : drop i jobs ≡ here ∷ rest
  stands = rw add-one (drop-cons jobs i _ there)

  -- It lies within the rows where all do, and is good where all are.
  module _ (cdm cds : List ℕ) where
    pub inside_at : Placed (length cdm) jobs → here.first + here.length ≤ length cdm
    inside_at placed = Tables.within (length cdm) here (through_at (place_refusals (length cdm)) i here jobs rest placed.inside stands)

    rows_at : Good cdm cds jobs → Rows (stretch here cdm) (stretch here cds) here.opening
    unfolding own_refusals
    rows_at good =
        rows_through (stretch here cdm) (stretch here cds) here.opening (through_at (own_refusals cdm cds) i here jobs rest good.clear stands)

    pub opened_at : Good cdm cds jobs → (here.first + here.length ≤ length cdm) × Rows (stretch here cdm) (stretch here cds) here.opening
    opened_at good = (inside_at good.placed, rows_at good)

    -- What is left of all entries, with this job's and without; and of all columns.
    with_this : entries_of cdm cds (drop i jobs) ≡ length (list_for cdm cds here) + entries_of cdm cds rest
    unfolding lists_of
    with_this = ap (entries_of cdm cds) stands ∙ length-append (list_for cdm cds here) (lists_of cdm cds rest)

    pub counted : {n : ℕ} → n ≡ length (list_for cdm cds here) → entries_of cdm cds (drop i jobs) ≡ n + entries_of cdm cds rest
    counted g = rw g with_this

  pub with_these : columns_of (drop i jobs) ≡ here.length + columns_of rest
  unfolding columns_of
  with_these = ap columns_of stands

  -- A search goes on behind a job that is let through, and stops at one that is refused.
  module _ (rules : Job → List Rule) (so_far : Searched rules jobs i) where
    pub goes_on : first (rules here) ≡ none → Searched rules jobs (i + 1)
    goes_on e = sym (not_here rules i here rest e) ∙ sym (ap (first_job rules i) stands) ∙ so_far

    pub stops : (number : ℕ) (beside : Detail) → first (rules here) ≡ some (refusal number beside)
        → some (refusal number (of_job i)) ≡ first_job rules 0 jobs
    stops number beside e = sym (Tables.here rules i here rest e) ∙ sym (ap (first_job rules i) stands) ∙ so_far

  -- A job has room as well, or all jobs together have not.
  module _ (needs : List Job → ℕ) (n : ℕ) (split : needs (drop i jobs) ≡ n + needs rest) (room left : ℕ) (so_far : Filled needs jobs room left i)
    where
      pub has_room : n ≤ left → Filled needs jobs room (left - n) (i + 1)
      has_room h = omega arith

      pub no_room : left < n → room < needs jobs
      no_room h = omega arith

  -- A list stands behind those before it, and its count in its place.
  module _ {cdm cds out counts lent tally : List ℕ} {made : ℕ} (so_far : Written cdm cds jobs lent tally i made out counts) where
    abbrev list : List Banked
    list = list_for cdm cds here

    pub one_written : Written cdm cds jobs lent tally (i + 1) (made + length list) (kept_all out made list)
        (set counts i (made + length list - made))
    unfolding lists_of counts_of
    one_written =
        let own : made + length list - made ≡ length list = omega arith in
        rw own (record {
          left = omega (arith, so_far.left, with_this cdm cds);
          laid =
              sym (kept_append list (lists_of cdm cds rest) out made)
              ∙ sym (ap (λ (js : List Job). kept_all out made (lists_of cdm cds js)) stands)
              ∙ so_far.laid;
          tallied =
              ap (λ (k : ℕ). sets (set counts i (length list)) k (counts_of cdm cds rest)) (add-one i)
              ∙ sym (ap (λ (js : List Job). sets counts i (counts_of cdm cds js)) stands)
              ∙ so_far.tallied;
        })

-- Behind the last job a pass is over: a search found none ..
module _ (jobs : List Job) (i : ℕ) (end : length jobs ≤ i) where
  nobody : drop i jobs ≡ []
  nobody = drop_of_length-le jobs end

  pub none_found : (rules : Job → List Rule) → Searched rules jobs i → none ≡ first_job rules 0 jobs
  unfolding first_job
  none_found rules so_far = sym (ap (first_job rules i) nobody) ∙ so_far

  -- .. all jobs together have room ..
  pub room_for_all : (needs : List Job → ℕ) → needs [] ≡ 0 → (room left : ℕ) → Filled needs jobs room left i → needs jobs ≤ room
  room_for_all needs none_needed room left so_far =
      let over : needs (drop i jobs) ≡ 0 = ap needs nobody ∙ none_needed in
      omega arith

  -- .. and all lists and counts are written.
  pub all_written : {cdm cds out counts lent tally : List ℕ} {made : ℕ} → Written cdm cds jobs lent tally i made out counts
      → (made ≡ entries_of cdm cds jobs) × (out ≡ kept_all lent 0 (lists_of cdm cds jobs)) × (counts ≡ sets tally 0 (counts_of cdm cds jobs))
  unfolding lists_of counts_of kept_all
  all_written {cdm} {cds} {out} {counts} {made = made} so_far =
      let none_left : entries_of cdm cds (drop i jobs) ≡ 0 = ap (entries_of cdm cds) nobody in (
        omega (arith, so_far.left),
        sym (ap (λ (js : List Job). kept_all out made (lists_of cdm cds js)) nobody) ∙ so_far.laid,
        sym (ap (λ (js : List Job). sets counts i (counts_of cdm cds js)) nobody) ∙ so_far.tallied,
      )

-- 9 is given exactly where all entries have no room; so it is not where they have as much as all stretches have columns.
module _ (cdm cds : List ℕ) (jobs : List Job) (room : ℕ) where
  abbrev bytes : ℕ
  bytes = length (list_bytes current (lists_of cdm cds jobs))

  pub not_nine : entries_of cdm cds jobs ≤ room / entry_bytes current → none ≡ first (room_refusals cdm cds jobs room)
  unfolding room_refusals first
  not_nine h = rw (le-ltb room bytes (omega (arith, length_list current (lists_of cdm cds jobs))))

  pub nine : room / entry_bytes current < entries_of cdm cds jobs → some (refusal 9 alone) ≡ first (room_refusals cdm cds jobs room)
  unfolding room_refusals first
  nine h = rw (lt-ltb room bytes (omega (arith, length_list current (lists_of cdm cds jobs))))

  pub room_enough : columns_of jobs ≤ room / entry_bytes current → none ≡ first (room_refusals cdm cds jobs room)
  room_enough h = not_nine (omega (arith, few_lists cdm cds jobs))
