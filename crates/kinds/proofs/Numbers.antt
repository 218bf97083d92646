-- The kinds' numbers: 1 to the last kind's, and no other number. Assumes nothing.
use mathlib.Core.Path.{◌≡◌, refl, sym, ap, ◌∙◌}
use mathlib.Core.Bool.{Bool, true, false, ◌&&◌, false≢true}
use mathlib.Core.List.{List, [], ◌∷◌}
use mathlib.Core.Option.{none}
use Rattle.std.specs.Prelude.{Result, Ok, Err}
use Rattle.std.specs.Result.{is_ok}
use Rattle.kinds.specs.declared.Kind as Code
use Rattle.kinds.specs.declared.NotAKind.{NotAKind}
use Prim.Native.Nat.{ℕ, zero, suc, ◌≤◌, ◌<◌}
use native.Mathlib.Omega.{arith}
use borrow.Author.Tests.{leb-true, leb-false, ne_eqb}
use lib.Dec.{leb}
use Rattle.protocol.specs.Entries.{Kind, forced, number, kinds, numbered}
use Rattle.protocol.proofs.Codec.{numbered_own}
use Rattle.laws.proofs.Every.{tested, both}
use Rattle.laws.proofs.Table.{below}
use Rattle.kinds.specs.Kinds.{is_one, is_kind, kind_or, kind_of, kind_by, Numbers}

-- The last kind's number.
abbrev pub last : ℕ
last = number forced

-- No number of a part of the table is past it.
up_to_last : List Kind → Bool
up_to_last [] = true
up_to_last (k ∷ ks) = leb (number k) last && up_to_last ks

past : (ks : List Kind) (n : ℕ) → up_to_last ks ≡ true → last < n → numbered n ks ≡ none
unfolding up_to_last numbered
past [] n e h = refl
past (k ∷ ks) n e h =
    let parts = both (leb (number k) last) (up_to_last ks) e in
    let low : number k ≤ last = leb-true (number k) last parts.0 in
    rw (ne_eqb (number k) n (λ q. omega arith)) (past ks n parts.1 h)

past_kinds : (n : ℕ) → last < n → is_kind n ≡ false
unfolding is_kind up_to_last
past_kinds n h = rw (past kinds n refl h)

is_kinds : (n : ℕ) → n < last → is_kind (suc n) ≡ true
unfolding is_kind numbered
is_kinds = below last (λ k. is_kind (suc k)) refl

pub no_kind : is_kind 0 ≡ false
unfolding is_kind numbered
no_kind = refl

pub own_kind : (k : Kind) → is_kind (number k) ≡ true
unfolding is_kind
own_kind k = ap is_one (numbered_own k)

-- Nor is a number a kind's that is none of those up to the last one.
pub no_other : (n : ℕ) → (1 ≤ n → n ≤ last → ⊥) → is_kind n ≡ false
no_other zero h = no_kind
no_other (suc n) h =
    tested (leb (suc n) last) (λ q. absurd (h (omega arith) (leb-true (suc n) last q))) (λ q. past_kinds (suc n) (leb-false (suc n) last q))

-- So asking for the kind of a number says whether it is one, and each number is that of the kind found.
pub decided : (n : ℕ) (r : Result Code.Kind NotAKind) → Numbers n r → is_ok r ≡ is_kind n
decided n (Ok k) e = rw (← e) (sym (own_kind (kind_by k)))
decided n (Err other) e = sym e

pub kind_low : (n : ℕ) → is_kind n ≡ true → n ≤ last
kind_low n e =
    tested (leb n last) (λ q. leb-true n last q) (λ q. absurd (false≢true (sym (past_kinds n (leb-false n last q)) ∙ e)))

-- The kind of a kind's own number.
pub kind_own : (k : Kind) → kind_of (number k) ≡ k
kind_own k = ap kind_or (numbered_own k)
