-- The banks of a list: they leave its entries as they are, and hang on what the list has shown before. Assumes nothing.
use mathlib.Core.Path.{◌≡◌, refl, ap, ap₂}
use mathlib.Core.Bool.{Bool, true, cond}
use mathlib.Core.List.{List, [], ◌∷◌, ◌++◌}
use Prim.Native.Nat.{ℕ}
use borrow.Author.Tests.{eqb-true}
use lib.Dec.{eqb}
use lib.ListN.{length, get_or, length-set}
use Rattle.protocol.specs.Entries.{Event, Entry}
use Rattle.protocol.specs.Banks.{Banked, no_bank, chooses_bank, learnt, learnt_all, told_after, names_bank, bank_of, banked, bare}
use Rattle.protocol.specs.Late.{AgreesFrom}
use Rattle.laws.proofs.Every.{Every, tested, or_left}
use Rattle.laws.proofs.Places.{set_like, set_here}

-- Without its banks a list is the entries that it was made of, and so many.
pub bare_banked : (known : List ℕ) (es : List Entry) → bare (banked known es) ≡ es
unfolding banked
bare_banked known [] = refl
bare_banked known (e ∷ es) = ap (λ (l : List Entry). e ∷ l) (bare_banked (learnt known e.event) es)

pub length_banked : (known : List ℕ) (es : List Entry) → length (banked known es) ≡ length es
unfolding banked
length_banked known [] = refl
length_banked known (e ∷ es) = rw (length_banked (learnt known e.event) es)

-- What holds of each entry holds of it beside its bank.
pub every_banked : (Q : Entry → Type 0) (known : List ℕ) (es : List Entry) → Every Q es → Every (λ x. Q x.entry) (banked known es)
unfolding banked
every_banked Q known [] q = tt
every_banked Q known (e ∷ es) q = (q.0, every_banked Q (learnt known e.event) es q.1)

-- What is known behind entries gives their banks to those that follow.
pub banked_append : (known : List ℕ) (es fs : List Entry) → banked known (es ++ fs) ≡ banked known es ++ banked (learnt_all known es) fs
unfolding banked learnt_all
banked_append known [] fs = refl
banked_append known (e ∷ es) fs = rw (banked_append (learnt known e.event) es fs)

pub length_learnt : (known : List ℕ) (e : Event) → length (learnt known e) ≡ length known
unfolding learnt
length_learnt known e =
    tested (chooses_bank e) (λ q. rw q (length-set known e.id _)) (λ q. rw q)

pub length_learnt_all : (known : List ℕ) (es : List Entry) → length (learnt_all known es) ≡ length known
unfolding learnt_all
length_learnt_all known [] = refl
length_learnt_all known (e ∷ es) = rw (length_learnt_all (learnt known e.event) es, length_learnt known e.event)

-- The same of those IDs that were told.
abbrev Same : (told : ℕ → Bool) → (known known' : List ℕ) → Type 0
Same told known known' = (id : ℕ) → told id ≡ true → get_or known id no_bank ≡ get_or known' id no_bank

same_bank : (e : Event) (b c : ℕ) → b ≡ c → cond (names_bank e) b 0 ≡ cond (names_bank e) c 0
same_bank e b c h = rw h

-- An event that chooses a bank tells of its ID; one that does not tells nothing.
same_learnt : (told : ℕ → Bool) (known known' : List ℕ) (e : Event) → length known ≡ length known' → Same told known known'
    → Same (told_after told e) (learnt known e) (learnt known' e)
unfolding learnt
same_learnt told known known' e n same id t =
    tested (chooses_bank e)
    (λ q. rw q
    (tested (eqb e.id id)
    (λ r. rw (← eqb-true e.id id r) (set_here known known' e.id _ no_bank n))
    (λ r. set_like known known' e.id id _ no_bank n (same id (or_left (told id) (rw (q, r) at t))))))
    (λ q. rw q (same id (or_left (told id) (rw q at t))))

-- Two lists of the same entries agree, and in the bank wherever their own list has told of it.
pub agrees : (told : ℕ → Bool) (known known' : List ℕ) (es : List Entry) → length known ≡ length known' → Same told known known'
    → AgreesFrom told (banked known es) (banked known' es)
unfolding AgreesFrom banked bank_of
agrees told known known' [] n same = tt
agrees told known known' (e ∷ es) n same = (
  refl,
  λ t. same_bank e.event _ _ (same e.event.id t),
  agrees (told_after told e.event) (learnt known e.event) (learnt known' e.event) es
      (rw (length_learnt known e.event, length_learnt known' e.event) n)
      (same_learnt told known known' e.event n same),
)

-- Lists that agree are the same but for their banks.
pub agrees_bare : (told : ℕ → Bool) (own whole : List Banked) → AgreesFrom told own whole → bare own ≡ bare whole
unfolding AgreesFrom
agrees_bare told [] [] a = refl
agrees_bare told [] (y ∷ ys) a = absurd a
agrees_bare told (x ∷ xs) [] a = absurd a
agrees_bare told (x ∷ xs) (y ∷ ys) a =
    ap₂ (λ (e : Entry) (l : List Entry). e ∷ l) a.0 (agrees_bare (told_after told x.entry.event) xs ys a.2)
