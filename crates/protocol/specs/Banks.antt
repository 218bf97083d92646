-- The bank of an entry, which no machine knows: a pass over the finished list. Request 05: "An entry .. and its line gain `bank` after the
-- address, named at addresses 0 to 63: the value of that ID's last earlier `written` at the bank register, 255 if none."
use Rattle.std.specs.Prelude.{Bool, cond, ◌&&◌, ◌||◌, List, [], ◌∷◌, map, ℕ, ltb, eqb, get_or, set, replicate}
use Rattle.protocol.specs.Limits.{id_count, bank_size, bank_register}
use Rattle.protocol.specs.Entries.{Kind, table, is, Event, Entry}

-- An entry with its bank, as a list has it.
pub record Banked : Type 0 where
  pub entry : Entry
  pub bank : ℕ

-- "255 if none".
abbrev pub no_bank : ℕ
no_bank = 255

-- Of each ID the bank that the list has shown so far: none yet.
abbrev pub unknown : List ℕ
unknown = replicate id_count no_bank

-- "`written` at the bank register" ..
abbrev pub chooses_bank : Event → Bool
chooses_bank e = is Kind.written e && eqb e.address bank_register

-- .. and what is known of the banks behind an event ..
unfoldable pub learnt : (known : List ℕ) → Event → List ℕ
learnt known e = cond (chooses_bank e) (set known e.id e.value) known

-- .. and behind entries.
unfoldable pub learnt_all : (known : List ℕ) → List Entry → List ℕ
learnt_all known [] = known
learnt_all known (e ∷ es) = learnt_all (learnt known e.event) es

-- Of which IDs a list has had such a `written`, behind an event.
abbrev pub told_after : (told : ℕ → Bool) → Event → ℕ → Bool
told_after told e id = told id || (chooses_bank e && eqb e.id id)

-- "named at addresses 0 to 63", where the kind names an address.
abbrev pub names_bank : Event → Bool
names_bank e = (table e.kind).has_address && ltb e.address bank_size

-- An event's bank; "Fields not named are 0".
unfoldable pub bank_of : (known : List ℕ) → Event → ℕ
bank_of known e = cond (names_bank e) (get_or known e.id no_bank) 0

-- "that ID's last earlier `written`": entry after entry, with what those before it have shown.
unfoldable pub banked : (known : List ℕ) → List Entry → List Banked
banked known [] = []
banked known (e ∷ es) = record { entry = e; bank = bank_of known e.event } ∷ banked (learnt known e.event) es

-- A list without its banks.
abbrev pub bare : List Banked → List Entry
bare l = map (λ x. x.entry) l
