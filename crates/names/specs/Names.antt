-- The table of kinds by the code's kinds, for the contracts of this crate: the table itself is protocol's (specs/Entries).
use Rattle.std.specs.Prelude.{Bool, ◌&&◌, List, ℕ, ltb}
use Rattle.protocol.specs.Limits.{bank_size}
use Rattle.protocol.specs.Entries.{table}
use Rattle.kinds.specs.Kinds.{kind_by}
use Rattle.kinds.specs.declared.Kind.{Kind}
use Rattle.names.specs.declared.Field.{Field}
use Rattle.names.specs.declared.Field.TheVariants.{Id, Address, Value}

-- "the kind by name".
abbrev pub name_of : Kind → List ℕ
name_of k = (table (kind_by k)).name

-- Whether a kind names a field.
abbrev pub names : Kind → Field → Bool
names k Id = (table (kind_by k)).has_id
names k Address = (table (kind_by k)).has_address
names k Value = (table (kind_by k)).has_value

-- Whether an entry of a kind and an address names its bank: "named at addresses 0 to 63".
abbrev pub names_bank_of : Kind → (address : ℕ) → Bool
names_bank_of k address = (table (kind_by k)).has_address && ltb address bank_size
