-- What holds of every list of rules, and of every job that ends by one, whatever its numbers are: when a number is given, what is known
-- where none is, rules behind others, the ends of a job, and that it has one result. Assumes nothing.
use mathlib.Core.Path.{◌≡◌, refl, sym, ap, ◌∙◌}
use mathlib.Core.Bool.{Bool, true, false, cond}
use mathlib.Core.List.{List, [], ◌∷◌, ◌++◌, map, append-nil}
use mathlib.Core.Logic.{◌↔◌}
use mathlib.Core.Option.{Option, none, some, or_else, none-ne-some}
use Rattle.std.specs.Prelude.{Result, Ok, Err}
use Prim.Native.Nat.{ℕ, ◌≤◌}
use native.Mathlib.Omega.{arith}
use lib.Dec.{eqb}
use lib.ListN.{length, take, drop, length-append, drop_of_length-le}
use lib.Seq.{sets, take-append_seam}
use Rattle.laws.proofs.Unique.{one_result}
use Rattle.job.specs.Refusals.{alone, Refusal, refusal, Rule, when, found, first, number, given, made, refused, ending, detail, refusal_of, told, Lent, lent, lent_after, Ended}
use Rattle.job.specs.declared.Reason.{Reason}
use Rattle.job.specs.declared.Reason.TheVariants as Reasons
use Rattle.job.specs.declared.Refusal as Returned
use Rattle.job.specs.declared.Detail as Code
use Rattle.job.specs.declared.Detail.TheVariants.{Alone, OnLine, OfJob}
use Rattle.job.proofs.Laid.{sets_first}

-- A rule holds and gives a refusal ..
abbrev pub Gives : Rule → Refusal → Type 0
Gives (when condition n) r = (condition ≡ true) × (refusal n alone ≡ r)
Gives (found label f) r = f ≡ some r

-- .. no rule of a list holds ..
abbrev pub Clear : List Rule → Type 0
Clear [] = Unit {0}
Clear (when condition n ∷ rules) = (condition ≡ false) × Clear rules
Clear (found label f ∷ rules) = (f ≡ none) × Clear rules

-- .. and none of them could give a refusal.
abbrev pub Absent : Refusal → List Rule → Type 0
Absent r [] = Unit {0}
Absent r (when condition n ∷ rules) = (refusal n alone ≡ r → ⊥) × Absent r rules
Absent r (found label f ∷ rules) = (f ≡ some r → ⊥) × Absent r rules

never : (r : Refusal) (rules : List Rule) → Absent r rules → first rules ≡ some r → ⊥
unfolding first or_else
never r [] a e = none-ne-some r e
never r (when true n ∷ rules) a e = a.0 (cc)
never r (when false n ∷ rules) a e = never r rules a.1 e
never r (found label none ∷ rules) a e = never r rules a.1 e
never r (found label (some q) ∷ rules) a e = a.0 e

only_then : (r : Refusal) (before : List Rule) (rule : Rule) (behind : List Rule) → Absent r before → Absent r behind
    → first (before ++ rule ∷ behind) ≡ some r → Clear before × Gives rule r
unfolding first or_else
only_then r [] (when true n) behind a b e = (tt, (refl, cc))
only_then r [] (when false n) behind a b e = absurd (never r behind b e)
only_then r [] (found label none) behind a b e = absurd (never r behind b e)
only_then r [] (found label (some q)) behind a b e = (tt, e)
only_then r (when true n ∷ before) rule behind a b e = absurd (a.0 (cc))
only_then r (when false n ∷ before) rule behind a b e =
    let parts = only_then r before rule behind a.1 b e in ((refl, parts.0), parts.1)
only_then r (found label none ∷ before) rule behind a b e =
    let parts = only_then r before rule behind a.1 b e in ((refl, parts.0), parts.1)
only_then r (found label (some q) ∷ before) rule behind a b e = absurd (a.0 e)

then_given : (r : Refusal) (before : List Rule) (rule : Rule) (behind : List Rule) → Clear before → Gives rule r
    → first (before ++ rule ∷ behind) ≡ some r
unfolding first or_else
then_given r [] (when condition n) behind c g = rw (g.0, g.1)
then_given r [] (found label f) behind c g = rw g
then_given r (when condition n ∷ before) rule behind c g = rw c.0 (then_given r before rule behind c.1 g)
then_given r (found label f ∷ before) rule behind c g = rw c.0 (then_given r before rule behind c.1 g)

-- "a number is given exactly when its condition holds and no earlier one's does": of a list in which no other rule has that number.
pub exactly_when : (r : Refusal) (before : List Rule) (rule : Rule) (behind : List Rule) → Absent r before → Absent r behind
    → (first (before ++ rule ∷ behind) ≡ some r) ↔ (Clear before × Gives rule r)
exactly_when r before rule behind a b =
    (only_then r before rule behind a b, λ holds. then_given r before rule behind holds.0 holds.1)

-- None is given exactly where no rule holds.
pub clear : (rules : List Rule) → first rules ≡ none → Clear rules
unfolding first or_else
clear [] e = tt
clear (when true n ∷ rules) e = absurd (none-ne-some _ (sym e))
clear (when false n ∷ rules) e = (refl, clear rules e)
clear (found label none ∷ rules) e = (refl, clear rules e)
clear (found label (some r) ∷ rules) e = absurd (none-ne-some _ (sym e))

pub none_given : (rules : List Rule) → Clear rules → first rules ≡ none
unfolding first or_else
none_given [] c = refl
none_given (when condition n ∷ rules) c = rw c.0 (none_given rules c.1)
none_given (found label f ∷ rules) c = rw c.0 (none_given rules c.1)

-- The rule of a number fails, wherever in the list it stands.
abbrev pub Fails : ℕ → List Rule → Type 0
Fails n [] = Unit {0}
Fails n (when condition m ∷ rules) = cond (eqb n m) (condition ≡ false) (Fails n rules)
Fails n (found label f ∷ rules) = cond (eqb n label) (f ≡ none) (Fails n rules)

either : {A B : Type 0} (b : Bool) → A → B → cond b A B
either true x y = x
either false x y = y

fails : (n : ℕ) (rules : List Rule) → Clear rules → Fails n rules
fails n [] c = tt
fails n (when condition m ∷ rules) c = either (eqb n m) c.0 (fails n rules c.1)
fails n (found label f ∷ rules) c = either (eqb n label) c.0 (fails n rules c.1)

-- So a job that refuses nothing says of each of its numbers that its condition fails, in the words of the condition.
pub no : (n : ℕ) (rules : List Rule) → first rules ≡ none → Fails n rules
no n rules e = fails n rules (clear rules e)

-- Rules behind others are tried where those give nothing.
pub first_append : (rules more : List Rule) → first (rules ++ more) ≡ or_else (first rules) (first more)
unfolding first or_else
first_append [] more = refl
first_append (when true n ∷ rules) more = refl
first_append (when false n ∷ rules) more = first_append rules more
first_append (found label none ∷ rules) more = first_append rules more
first_append (found label (some r) ∷ rules) more = refl

-- A reason that the code hands on counts before any other.
pub counts : {A : Type 0} (r : Result A Reason) (other : Option Refusal) → (given r ≡ none → ⊥) → given r ≡ or_else (given r) other
unfolding or_else
counts (Ok a) other h = absurd (h refl)
counts (Err reason) other h = refl

module _ (rules more : List Rule) where
  pub keeps : (r : Refusal) → first rules ≡ some r → first (rules ++ more) ≡ some r
  unfolding or_else
  keeps r e = first_append rules more ∙ rw e

  pub stays : (reason : Reason) → some (refusal (number reason) alone) ≡ first rules
      → some (refusal (number reason) alone) ≡ first (rules ++ more)
  stays reason e = sym (keeps _ (sym e))

  pub passes : first rules ≡ none → first (rules ++ more) ≡ first more
  unfolding or_else
  passes e = first_append rules more ∙ rw e

  pub none_before : first (rules ++ more) ≡ none → first rules ≡ none
  unfolding or_else
  none_before e = before (first rules) (sym (first_append rules more) ∙ e)
    where
      before : (f : Option Refusal) → or_else f (first more) ≡ none → f ≡ none
      before none e = refl
      before (some r) e = e

-- No two details, and no two outcomes, of the code are told alike, so that a promise of what is told has one result.
pub one_detail : (a b : Code.Detail) → detail a ≡ detail b → a ≡ b
one_detail Alone Alone e = refl
one_detail Alone (OnLine l b) e = cc
one_detail Alone (OfJob i) e = cc
one_detail (OnLine l b) Alone e = cc
one_detail (OnLine l b) (OnLine k c) e = cc
one_detail (OnLine l b) (OfJob i) e = cc
one_detail (OfJob i) Alone e = cc
one_detail (OfJob i) (OnLine l b) e = cc
one_detail (OfJob i) (OfJob j) e = cc

-- All reasons, and the one of a number: no two share it.
reasons : List Reason
reasons =
    Reasons.TooManySlaves
    ∷ Reasons.WrongRegisters
    ∷ Reasons.WrongRights
    ∷ Reasons.RightTooHigh
    ∷ Reasons.TooManyColumns
    ∷ Reasons.RowsDiffer
    ∷ Reasons.NotABit
    ∷ Reasons.OpeningBehind
    ∷ Reasons.NoRoom
    ∷ Reasons.OutOfRange
    ∷ Reasons.NotAList
    ∷ Reasons.WrongHeader
    ∷ Reasons.WrongDigit
    ∷ Reasons.NoTab
    ∷ Reasons.NoFeed
    ∷ Reasons.TextCut
    ∷ Reasons.WrongWaits
    ∷ Reasons.WrongBanks
    ∷ Reasons.OutsideRows
    ∷ Reasons.WrongCounts
    ∷ Reasons.WrongTally
    ∷ []

numbered : List Reason → (n : ℕ) → Option Reason
numbered [] n = none
numbered (r ∷ rs) n = cond (eqb (number r) n) (some r) (numbered rs n)

own_number : (a : Reason) → numbered reasons (number a) ≡ some a
unfolding reasons numbered
own_number Reasons.TooManySlaves = refl
own_number Reasons.WrongRegisters = refl
own_number Reasons.WrongRights = refl
own_number Reasons.RightTooHigh = refl
own_number Reasons.TooManyColumns = refl
own_number Reasons.RowsDiffer = refl
own_number Reasons.NotABit = refl
own_number Reasons.OpeningBehind = refl
own_number Reasons.NoRoom = refl
own_number Reasons.OutOfRange = refl
own_number Reasons.NotAList = refl
own_number Reasons.WrongHeader = refl
own_number Reasons.WrongDigit = refl
own_number Reasons.NoTab = refl
own_number Reasons.NoFeed = refl
own_number Reasons.TextCut = refl
own_number Reasons.WrongWaits = refl
own_number Reasons.WrongBanks = refl
own_number Reasons.OutsideRows = refl
own_number Reasons.WrongCounts = refl
own_number Reasons.WrongTally = refl

pub one_reason : (a b : Reason) → number a ≡ number b → a ≡ b
one_reason a b e = let same : some a ≡ some b = sym (own_number a) ∙ ap (numbered reasons) e ∙ own_number b in cc

pub one_refusal : (r q : Returned.Refusal) → refusal_of r ≡ refusal_of q → r ≡ q
one_refusal r q e =
    let reason : r.reason ≡ q.reason = one_reason r.reason q.reason (cc) in
    let beside : r.beside ≡ q.beside = one_detail r.beside q.beside (cc) in
    let all : ◌≡◌ {A = Returned.Refusal} (record { reason = r.reason; beside = r.beside }) (record { reason = q.reason; beside = q.beside }) = cc in
    all

one_told : (a b : Result ℕ Returned.Refusal) → told a ≡ told b → a ≡ b
one_told (Ok n) (Ok m) e = cc
one_told (Ok n) (Err r) e = cc
one_told (Err r) (Ok n) e = cc
one_told (Err r) (Err q) e = ap (λ (x : Returned.Refusal). Err x) (one_refusal r q (cc))

-- A buffer as it was lent.
abbrev pub unchanged : Lent → List ℕ
unchanged (lent result before) = before

all_unchanged : (r : Refusal) (buffers : List Lent) → map unchanged buffers ≡ map (lent_after (some r)) buffers
unfolding lent_after
all_unchanged r [] = refl
all_unchanged r (lent result before ∷ buffers) = ap (λ (l : List (List ℕ)). before ∷ l) (all_unchanged r buffers)

-- A result laid from the start of its buffer, one that takes the place of all of it, and that it stands there whole.
module _ (result before : List ℕ) where
  pub laid : length result ≤ length before → sets before 0 result ≡ lent_after none (lent result before)
  unfolding lent_after
  laid h = sets_first before result h

  pub laid_whole : length result ≡ length before → result ≡ lent_after none (lent result before)
  unfolding lent_after
  laid_whole h =
      let end : drop (length result) before ≡ [] = drop_of_length-le before {i = length result} (omega arith) in
      rw (end, append-nil result)

  pub result_fits : length result ≤ length (lent_after none (lent result before))
  unfolding lent_after
  result_fits = omega (arith, length-append result (drop (length result) before))

  pub result_first : take (length result) (lent_after none (lent result before)) ≡ result
  unfolding lent_after
  result_first = take-append_seam result _

-- The ends of a job: refused, with every lent byte as it was ..
module _ (rules : List Rule) (count : ℕ) (buffers : List Lent) where
  pub ended_refused : (r : Returned.Refusal) → first rules ≡ some (refusal_of r)
      → Ended rules count buffers (Err r) (map unchanged buffers)
  ended_refused r g = record { tells = rw g; leaves = rw g (all_unchanged (refusal_of r) buffers) }

  -- .. or made.
  pub ended_made : (n : ℕ) (after : List (List ℕ)) → first rules ≡ none → n ≡ count → after ≡ map (lent_after none) buffers
      → Ended rules count buffers (Ok n) after
  ended_made n after g e l = record { tells = rw (g, e); leaves = rw g l }

-- And back, from what a job returned to its rules.
module _ {rules : List Rule} {count : ℕ} {buffers : List Lent} {after : List (List ℕ)} where
  pub was_made : {n : ℕ} → Ended rules count buffers (Ok n) after
      → (first rules ≡ none) × (n ≡ count) × (after ≡ map (lent_after none) buffers)
  was_made {n} ended = from (first rules) ended.tells ended.leaves
    where
      from : (f : Option Refusal) → made n ≡ ending f count → after ≡ map (lent_after f) buffers
          → (f ≡ none) × (n ≡ count) × (after ≡ map (lent_after none) buffers)
      from none e l = (refl, cc, l)
      from (some r) e l = absurd (let z : ◌≡◌ {A = ℕ} 0 1 = cc in omega arith)

  pub was_refused : {r : Returned.Refusal} → Ended rules count buffers (Err r) after → first rules ≡ some (refusal_of r)
  was_refused {r} ended = from (first rules) ended.tells
    where
      from : (f : Option Refusal) → refused (refusal_of r) ≡ ending f count → f ≡ some (refusal_of r)
      from none e = absurd (let z : ◌≡◌ {A = ℕ} 0 1 = cc in omega arith)
      from (some q) e = cc

  pub ended_none : {outcome : Result ℕ Returned.Refusal} → Ended rules count buffers outcome after → first rules ≡ none → outcome ≡ Ok count
  ended_none {outcome} ended e = one_told outcome (Ok count) (ended.tells ∙ rw e)

  -- A job ends alike by rules that give the same.
  pub same_rules : {others : List Rule} {outcome : Result ℕ Returned.Refusal} → Ended rules count buffers outcome after → first rules ≡ first others
      → Ended others count buffers outcome after
  same_rules ended e = record { tells = rw (← e) ended.tells; leaves = rw (← e) ended.leaves }

  -- A job's promise has one result: two results that meet it are equal, in what is returned and in every lent byte.
  pub ended_unique : {a b : Result ℕ Returned.Refusal} {other : List (List ℕ)} → Ended rules count buffers a after → Ended rules count buffers b other
      → (a ≡ b) × (after ≡ other)
  ended_unique {a} {b} p q = (one_told a b (one_result p.tells q.tells), one_result p.leaves q.leaves)
