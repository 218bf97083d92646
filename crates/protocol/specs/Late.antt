-- Late opening, stated of the rows and not by running a reader: the first fourteen master zeros at or after a column, and
-- the entries after it. And opening at an entry's frame.
use Rattle.std.specs.Prelude.{◌≡◌, Bool, true, false, cond, List, [], ◌∷◌, ℕ, zero, suc, ◌+◌, ◌-◌, ◌≤◌, ◌<◌, leb, drop}
use Rattle.std.proofs.Math.Option.{some}
use Rattle.std.proofs.Math.ListN.{get_elem?}
use Rattle.protocol.specs.Limits.{rest_zeros}
use Rattle.protocol.specs.Entries.{Place}
use Rattle.protocol.specs.Banks.{Banked, told_after}
use Rattle.protocol.specs.Reader.{Column, list_from}

-- The row begins with n zeros.
unfoldable pub Zeros : ℕ → List Bool → Type 0
Zeros zero ms = Unit {0}
Zeros (suc n) [] = ⊥
Zeros (suc n) (true ∷ ms) = ⊥
Zeros (suc n) (false ∷ ms) = Zeros n ms

-- Fourteen zeros begin at column j.
abbrev pub FourteenAt : List Bool → ℕ → Type 0
FourteenAt row j = Zeros rest_zeros (drop j row)

-- Demand 3: "the first run of fourteen master zeros lying wholly at or after k" begins at j.
pub record FirstFourteen (row : List Bool) (k j : ℕ) : Type 0 where
  pub fourteen : FourteenAt row j
  pub wholly : k ≤ j
  pub first : (i : ℕ) → k ≤ i → i < j → FourteenAt row i → ⊥

-- There are no such zeros.
abbrev pub NoFourteen : List Bool → ℕ → Type 0
NoFourteen row k = (i : ℕ) → k ≤ i → FourteenAt row i → ⊥

-- The entries of a list that fall in column j or later.
unfoldable pub from_column : ℕ → List Banked → List Banked
from_column j [] = []
from_column j (e ∷ es) = cond (leb j e.entry.place.column) (e ∷ from_column j es) (from_column j es)

-- Request 05: "A reader let in late agrees in all but the bank, and there too after a `written` of that ID's bank register in its own
-- list." The first list is its own; `told` says of which IDs it has had such a `written` ..
unfoldable pub AgreesFrom : (told : ℕ → Bool) → (own whole : List Banked) → Type 0
AgreesFrom told [] [] = Unit {0}
AgreesFrom told [] (y ∷ ys) = ⊥
AgreesFrom told (x ∷ xs) [] = ⊥
AgreesFrom told (x ∷ xs) (y ∷ ys) =
    (x.entry ≡ y.entry) × (told x.entry.event.id ≡ true → x.bank ≡ y.bank)
    × AgreesFrom (told_after told x.entry.event) xs ys

-- .. and at its beginning of none.
abbrev pub Agrees : (own whole : List Banked) → Type 0
Agrees own whole = AgreesFrom (λ id. false) own whole

-- Start: "The first 1 after rest is the start bit S". The S of the frame that a place is in, in the master row alone: a 1 behind fourteen
-- zeros, all of them at or after k, and from it up to the place's column no fourteen zeros are complete.
pub record Started (row : List Bool) (k : ℕ) (p : Place) : Type 0 where
  pub fourteen : FourteenAt row (p.start - rest_zeros)
  pub wholly : k + rest_zeros ≤ p.start
  pub one : get_elem? row p.start ≡ some true
  pub earlier : p.start < p.column
  pub lasting : (j : ℕ) → p.start < j → j + rest_zeros ≤ p.column → FourteenAt row j → ⊥

-- Request 02, "Open at the frame": entry i of the list from column k has this start. Let in fourteen columns before it a reader
-- agrees from some entry on, and entry i is among them.
pub record OpenedAt (cs : List Column) (k i start : ℕ) : Type 0 where
  pub skipped : ℕ
  pub not_it : skipped ≤ i
  pub the_same : Agrees (list_from (start - rest_zeros) cs) (drop skipped (list_from k cs))
