-- Replay: a list's written bytes put back, in order, on starting registers, and its executions counted; and what a read, a `written` and a
-- bank show of it.
use Rattle.std.specs.Prelude.{◌≡◌, Bool, true, false, cond, ◌&&◌, List, [], ◌∷◌, map, ℕ, zero, suc, ◌+◌, ◌<◌, eqb}
use Rattle.std.proofs.Math.Option.{Option, none, some}
use Rattle.std.proofs.Math.ListN.{get_elem?}
use Rattle.protocol.specs.Limits.{id_count}
use Rattle.protocol.specs.Bits.{num}
use Rattle.protocol.specs.Commands.{codes, concerns_at}
use Rattle.protocol.specs.Memory.{Memory, chosen, allows, holds, stored, counted}
use Rattle.protocol.specs.Entries.{Kind, is, Event, Entry}
use Rattle.protocol.specs.Banks.{Banked, no_bank, told_after, names_bank}

-- The memories with one of them changed at one address; a place past the chain changes nothing.
unfoldable pub stored_at : List Memory → (id address value : ℕ) → List Memory
stored_at [] id address value = []
stored_at (k ∷ ks) zero address value = stored k address value ∷ ks
stored_at (k ∷ ks) (suc id) address value = k ∷ stored_at ks id address value

-- The memories changed each by its place, the first of them at place i.
unfoldable pub by_place : (change : ℕ → Memory → Memory) → (i : ℕ) → List Memory → List Memory
by_place change i [] = []
by_place change i (k ∷ ks) = change i k ∷ by_place change (suc i) ks

-- Request 07: "An executed addressed command counts once for each slave whose ID it names. An executed broadcast counts once for every
-- slave, numbered or not."
abbrev pub counted_at : (ids cmd place : ℕ) → Memory → Memory
counted_at ids cmd place k = cond (concerns_at ids place) (counted k cmd) k

-- A `written` puts its value at its ID and address, and an `executed` is counted; any other changes nothing.
unfoldable pub put : List Memory → Event → List Memory
put ks e =
    cond (is Kind.written e) (stored_at ks e.id e.address e.value)
    (cond (is Kind.executed e) (by_place (counted_at e.value e.id) 0 ks) ks)

-- Demand 3: "its writes replayed on the starting registers". Request 05: "demand 3's replay uses the replayed bank register": `stored` asks
-- the memory at hand which bank it shows, and an entry's bank is not looked at.
unfoldable pub replay : List Memory → List Entry → List Memory
replay ks [] = ks
replay ks (e ∷ es) = replay (put ks e.event) es

-- Request 07: "the listed executions, counted": those of one code, for the slave at a place ..
unfoldable pub executions_at : (place cmd : ℕ) → List Entry → ℕ
executions_at place cmd [] = 0
executions_at place cmd (e ∷ es) =
    num (is Kind.executed e.event && (concerns_at e.event.value place && eqb e.event.id cmd)) + executions_at place cmd es

-- .. all four, by code ..
abbrev pub executions_of : (place : ℕ) → List Entry → List ℕ
executions_of place es = map (λ cmd. executions_at place cmd es) codes

-- .. and of so many slaves, the first of them at a place.
unfoldable pub executions : (slaves place : ℕ) → List Entry → List (List ℕ)
executions zero place es = []
executions (suc n) place es = executions_of place es ∷ executions n (suc place) es

-- A value stands at an address of a slave that is there.
abbrev pub StandsAt : Option Memory → (address value : ℕ) → Type 0
StandsAt none address value = ⊥
StandsAt (some k) address value = holds k address ≡ value

-- What a read shows stands there; of other kinds nothing is asked.
abbrev pub WhenRead : Bool → List Memory → Event → Type 0
WhenRead true ks e = StandsAt (get_elem? ks e.id) e.address e.value
WhenRead false ks e = Unit {0}

-- Demand 3: "each read shows the byte that stood there then": in the replay of the entries before it.
unfoldable pub Shows : List Memory → List Entry → Type 0
Shows ks [] = Unit {0}
Shows ks (e ∷ es) = WhenRead (is Kind.read e.event) ks e.event × Shows (put ks e.event) es

-- R and W: "its right allows the access at that address", of a slave that is there.
abbrev pub MayAt : Option Memory → (write : Bool) → (address : ℕ) → Type 0
MayAt none write address = ⊥
MayAt (some k) write address = allows k write address ≡ true

-- A `written` goes to a slave that holds its ID and allows it; of other kinds nothing is asked.
abbrev pub WhenWritten : Bool → List Memory → Event → Type 0
WhenWritten true ks e = (e.id < id_count) × MayAt (get_elem? ks e.id) true e.address
WhenWritten false ks e = Unit {0}

-- So each does, in the replay of the entries before it.
unfoldable pub Rightful : List Memory → List Entry → Type 0
Rightful ks [] = Unit {0}
Rightful ks (e ∷ es) = WhenWritten (is Kind.written e.event) ks e.event × Rightful (put ks e.event) es

-- The number in the bank register of a slave that may be there.
abbrev pub chosen_at : Option Memory → ℕ
chosen_at none = no_bank
chosen_at (some k) = chosen k

-- The bank that a list names is the one that its ID's bank register names then, in the replay of the entries before it: of those IDs of
-- which it has had a `written` at the bank register.
unfoldable pub BanksStand : (told : ℕ → Bool) → List Memory → List Banked → Type 0
BanksStand told ks [] = Unit {0}
BanksStand told ks (x ∷ xs) =
    (names_bank x.entry.event ≡ true → told x.entry.event.id ≡ true → x.bank ≡ chosen_at (get_elem? ks x.entry.event.id))
    × BanksStand (told_after told x.entry.event) (put ks x.entry.event) xs
