-- A list's `next` gives the first of its entries and leaves the others. Assumes nothing.
use mathlib.Core.Path.{◌≡◌, sym, ap, ◌∙◌}
use mathlib.Core.Bool.{false, false≢true}
use Prim.Native.Nat.{ℕ}
use borrow.Author.Rules.{rules}
use lib.ListN.{length}
use Rattle.std.proofs.Common.{Option, Result, Some, None, Ok, Err}
use Rattle.std.specs.Result.{result_ok}
use Rattle.protocol.specs.Entries.{number}
use Rattle.kinds.specs.Kinds.{is_kind, kind_by, Numbers}
use Rattle.kinds.specs.declared.Kind.{Kind}
use Rattle.kinds.specs.declared.NotAKind.{NotAKind}
use Rattle.lists.proofs.Walk.{kind_first, list_behind, entry_here, entries_few}
use Rattle.lists.proofs.ListIterator.next.Goals as goal

-- What the code makes of a number: its kind, or none.
found : (n : ℕ) (r : Result Kind NotAKind) (o : Option Kind) (k : Kind) → o ≡ result_ok r → Numbers n r → o ≡ Some k
    → number (kind_by k) ≡ n
found n (Ok j) o k q gives e = let same : j ≡ k = cc in rw (← same) gives
found n (Err x) o k q gives e = cc

lost : (n : ℕ) (r : Result Kind NotAKind) (o : Option Kind) → o ≡ result_ok r → Numbers n r → o ≡ None → is_kind n ≡ false
lost n (Ok j) o q gives e = cc
lost n (Err x) o q gives e = gives

pub returns-in_err-e-clause-steps : goal.returns-in_err-e-clause-steps
returns-in_err-e-clause-steps c =
    let none = entries_few _ c.in_err-e.ensures.cases in
    rw c.from_residual.ensures (none, none)

pub returns-in_err-kind-clause-steps : goal.returns-in_err-kind-clause-steps
returns-in_err-kind-clause-steps c =
    let cut = c.in_ok-e.ensures.cases in
    let no_kind = lost _ _ _ c.ok.ensures.value c.try_from.ensures c.in_err-kind.was in
    absurd (false≢true (sym no_kind ∙ kind_first _ _ _ cut.0 cut.1 cut.2 c.args.self.now.whole))

pub invariant_of-self : goal.invariant_of-self
invariant_of-self c =
    let cut = c.in_ok-e.ensures.cases in
    record { whole = list_behind _ _ _ cut.0 cut.1 cut.2 c.args.self.now.whole }

pub returns-clause-steps : goal.returns-clause-steps
returns-clause-steps c =
    let cut = c.in_ok-e.ensures.cases in
    let its_kind = found _ _ _ _ c.ok.ensures.value c.try_from.ensures c.in_ok-kind.was in
    rw c.behind.ensures (entry_here _ _ _ cut.0 cut.1 cut.2 c.in_ok-kind.kind its_kind)

pub returns-clause-goes : goal.returns-clause-goes
returns-clause-goes c = let shorter = ap length (returns-clause-steps c) in search rules
