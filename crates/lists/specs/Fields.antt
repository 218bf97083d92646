-- Entries as the code takes them out of a list, for the contracts of the jobs that take one: entries and lists are protocol's
-- (specs/Layout).
use Rattle.std.specs.Prelude.{List, ℕ}
use Rattle.protocol.specs.Layout.{Field, current, field_at}
use Rattle.lists.specs.declared.Fields.{Fields}

-- The fields of a kind, by what stands in the others.
abbrev pub fields_by : {K : Type 0} → K → (Field → ℕ) → Fields K
fields_by k v =
    record {
      kind = k;
      column = v Field.column;
      start = v Field.start;
      id = v Field.id;
      address = v Field.address;
      bank = v Field.bank;
      value = v Field.value;
    }

-- What stands in the fields of the entry at place i of a list's bytes.
unfoldable pub fields_at : (list : List ℕ) → (i : ℕ) → Fields ℕ
fields_at list i = fields_by (field_at current list i Field.kind) (field_at current list i)
