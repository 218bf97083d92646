-- The end of every call has room in its code: a lent buffer has fewer than 2 ^ 63 bytes, a refusal's number is a small one, and of a text of
-- fewer than 2 ^ 55 bytes, four to a line, no line's number comes to 2 ^ 53; nor does a job's to 2 ^ 55, of a table of as many. Assumes
-- nothing.
use mathlib.Core.Path.{◌≡◌, refl}
use mathlib.Core.Bool.{true, false}
use mathlib.Core.List.{List, [], ◌∷◌}
use mathlib.Core.Option.{Option, none, some, or_else}
use Prim.Native.Nat.{ℕ, ◌+◌, ◌^◌, ◌≤◌, ◌<◌}
use native.Mathlib.Omega.{arith}
use borrow.Author.Tests.{ltb-false}
use lib.ListN.{length}
use Rattle.std.proofs.lemmas.Bool.{or_parts}
use Rattle.std.specs.Prelude.{Result}
use Rattle.protocol.specs.Limits.{column_limit}
use Rattle.protocol.specs.Building.{Request}
use Rattle.protocol.specs.Layout.{current, list_bytes, entries_in}
use Rattle.protocol.specs.Text.{rows_text, cdm_of, list_text}
use Rattle.protocol.specs.Fault.{Fault, text_fault}
use Rattle.laws.proofs.Every.{IfAny}
use Rattle.protocol.proofs.Codec.{length_list}
use Rattle.protocol.proofs.Fault.{Low, text_low}
use Rattle.job.specs.Refusals.{Detail, alone, on_line, of_job, Refusal, refusal, Rule, when, found, first, refused, ending, told, Lent, Ended}
use Rattle.job.specs.Rows.{row_rules, wrong_row, wrong_rows}
use Rattle.job.specs.declared.Refusal as Returned
use Rattle.job.proofs.Refusals.{no}
use Rattle.build.specs.Build as Build
use Rattle.build.specs.Build.{Built}
use Rattle.run.specs.Run as Run
use Rattle.run.specs.Run.{Ran}
use Rattle.read.specs.Read as Read
use Rattle.read.specs.Read.{list_of, Listed}
use Rattle.read_all.specs.ReadAll as ReadAll
use Rattle.read_all.specs.ReadAll.{lists_of, told_of_job, first_job, place_refusals, own_refusals, ListedAll}
use Rattle.read_all.specs.declared.Job.{Job}
use Rattle.list_text.specs.Lists.{list_refusals, ListPrinted}
use Rattle.rows_text.specs.RowsText.{rows_refusals, bad_form, text_room, text_refusals, RowsPrinted, RowsTaken}
use Rattle.biss.specs.Coded.{Fits}

-- What is refused, if anything is, has room ..
abbrev AnyFits : Option Refusal → Type 0
AnyFits f = IfAny (λ (r : Refusal). Fits (refused r)) f

-- .. and so has every refusal that some rules can give, ..
abbrev Roomy : List Rule → Type 0
Roomy [] = Unit {0}
Roomy (when condition n ∷ rules) = (n < 2 ^ 6) × Roomy rules
Roomy (found label f ∷ rules) = AnyFits f × Roomy rules

-- .. and what they end in, if the count has.
ending_fits : (rules : List Rule) (count : ℕ) → Roomy rules → (first rules ≡ none → count < 2 ^ 63) → Fits (ending (first rules) count)
unfolding first or_else
ending_fits [] count r h = h refl
ending_fits (when true n ∷ rules) count r h = r.0
ending_fits (when false n ∷ rules) count r h = ending_fits rules count r.1 h
ending_fits (found label none ∷ rules) count r h = ending_fits rules count r.1 h
ending_fits (found label (some q) ∷ rules) count r h = r.0

end_fits : {rules : List Rule} {count : ℕ} {buffers : List Lent} {outcome : Result ℕ Returned.Refusal} {after : List (List ℕ)}
    → Ended rules count buffers outcome after → Roomy rules → (first rules ≡ none → count < 2 ^ 63) → Fits (told outcome)
end_fits {rules} {count} ended r h = rw ended.tells (ending_fits rules count r h)

-- So the end of build, run and read, ..
pub built_fits : {r : Request} {out : List ℕ} {outcome : Result ℕ Returned.Refusal} {after : List ℕ} → Built r out outcome after → length out < 2 ^ 63
    → Fits (told outcome)
unfolding Build.refusals
built_fits {r} {out} built h =
    end_fits built.ends (omega arith)
    (λ e. let fits : length (Build.made r) ≤ length out = ltb-false _ _ (no 9 _ e) in omega arith)

pub ran_fits : {slaves : ℕ} {table rights waits registers counts cdm cds : List ℕ} {outcome : Result ℕ Returned.Refusal} {registers' counts' cds' : List ℕ}
    → Ran slaves table rights waits registers counts cdm cds outcome registers' counts' cds' → Fits (told outcome)
unfolding Run.refusals Run.size_refusals wrong_row row_rules
ran_fits {cdm} ran =
    end_fits ran.ends (omega arith)
    (λ e. let short : length cdm ≤ column_limit = ltb-false _ _ (or_parts _ _ (no 5 _ e)).0 in omega arith)

pub listed_fits : {cdm cds : List ℕ} {k : ℕ} {out : List ℕ} {outcome : Result ℕ Returned.Refusal} {after : List ℕ} → Listed cdm cds k out outcome after
    → length out < 2 ^ 63 → Fits (told outcome)
unfolding Read.refusals Read.rows_refusals wrong_rows row_rules
listed_fits {cdm} {cds} {k} {out} listed h =
    let list = list_of k cdm cds in
    end_fits listed.ends (omega arith)
    (λ e. let fits : length (list_bytes current list) ≤ length out = ltb-false _ _ (no 9 _ e) in omega (arith, length_list current list))

-- .. of many readings in one call, where a job's refusal has the number that a rule gives it, and the job's own, ..
number_fits : (number : ℕ) (beside : Detail) → Fits (refused (refusal number beside)) → number < 2 ^ 6
number_fits number alone h = h
number_fits number (on_line line byte) h = h.0
number_fits number (of_job job) h = h.0

one_fits : (i : ℕ) (o rest : Option Refusal) → i < 2 ^ 55 → Fits (ending o 0) → AnyFits rest → AnyFits (or_else (told_of_job i o) rest)
unfolding or_else
one_fits i none rest h k l = l
one_fits i (some (refusal number beside)) rest h k l = (number_fits number beside k, h)

job_fits : (rules : Job → List Rule) → ((j : Job) → Roomy (rules j)) → (i : ℕ) (jobs : List Job) → i + length jobs ≤ 2 ^ 55
    → AnyFits (first_job rules i jobs)
unfolding first_job
job_fits rules r i [] h = tt
job_fits rules r i (j ∷ jobs) h =
    one_fits i (first (rules j)) _ (omega arith) (ending_fits (rules j) 0 (r j) (λ e. omega arith))
    (job_fits rules r (i + 1) jobs (omega arith))

pub listed_all_fits : {cdm cds : List ℕ} {jobs : List Job} {out counts : List ℕ} {outcome : Result ℕ Returned.Refusal} {after tally : List ℕ}
    → ListedAll cdm cds jobs out counts outcome after tally → length jobs ≤ 2 ^ 55 → length out < 2 ^ 63 → Fits (told outcome)
unfolding ReadAll.refusals place_refusals own_refusals Read.rows_refusals wrong_rows row_rules
listed_all_fits {cdm} {cds} {jobs} {out} listed h k =
    let lists = lists_of cdm cds jobs in
    let places = job_fits (place_refusals (length cdm)) (λ j. omega arith) 0 jobs (omega arith) in
    let readings = job_fits (own_refusals cdm cds) (λ j. omega arith) 0 jobs (omega arith) in
    end_fits listed.ends (omega arith, (omega arith, (places, (readings, omega arith))))
    (λ e. let fits : length (list_bytes current lists) ≤ length out = ltb-false _ _ (no 9 _ e) in omega (arith, length_list current lists))

-- .. and of carry.
pub rows_printed_fits : (cdm cds : List ℕ) {out : List ℕ} {outcome : Result ℕ Returned.Refusal} {after : List ℕ} → RowsPrinted cdm cds out outcome after
    → length out < 2 ^ 63 → Fits (told outcome)
unfolding rows_refusals wrong_rows row_rules
rows_printed_fits cdm cds {out} printed h =
    end_fits printed (omega arith)
    (λ e. let fits : length (rows_text cdm cds) ≤ length out = ltb-false _ _ (no 9 _ e) in omega arith)

pub list_printed_fits : (list : List ℕ) {out : List ℕ} {outcome : Result ℕ Returned.Refusal} {after : List ℕ} → ListPrinted list out outcome after
    → length out < 2 ^ 63 → Fits (told outcome)
unfolding list_refusals
list_printed_fits list {out} printed h =
    end_fits printed (omega arith) (λ e. let fits : length (list_text (entries_in current list)) ≤ length out = ltb-false _ _ (no 9 _ e) in omega arith)

form_fits : (fault : Option Fault) {bytes : ℕ} → bytes < 2 ^ 55 → IfAny (Low bytes) fault → AnyFits (bad_form fault)
form_fits none h low = tt
form_fits (some f) h low = omega arith

pub taken_fits : {text cdm cds : List ℕ} {outcome : Result ℕ Returned.Refusal} {cdm' cds' : List ℕ} → RowsTaken text cdm cds outcome cdm' cds'
    → length text < 2 ^ 55 → Fits (told outcome)
unfolding text_refusals text_room
taken_fits {text} taken h =
    end_fits taken.ends (form_fits (text_fault text) h (text_low text), omega arith)
    (λ e. let short : length (cdm_of text) ≤ column_limit = ltb-false _ _ (no 5 _ e) in omega arith)
