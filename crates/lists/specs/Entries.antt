-- The entries of a list, as the code goes over them: entries and lists are protocol's (specs/Layout).
use Rattle.std.specs.Prelude.{◌≡◌, not, List as Many, [], ◌∷◌, ℕ, Result, IfOk}
use denote.Ref.{Bor}
use Rattle.protocol.specs.Banks.{Banked}
use Rattle.protocol.specs.Layout.{current, entries_in, is_list}
use Rattle.job.specs.Refusals.{when, first, given}
use Rattle.job.specs.declared.Reason.{Reason}
use Rattle.kinds.specs.Kinds.{kind_by}
use Rattle.kinds.specs.declared.Kind.{Kind}
use Rattle.lists.specs.declared.Fields.{Fields}
use Rattle.lists.specs.declared.List.{List}

-- The entry of what stands in the fields.
abbrev pub entry_of : Fields Kind → Banked
entry_of f =
    record {
      entry = record {
        place = record { column = f.column; start = f.start };
        event = record { kind = kind_by f.kind; id = f.id; address = f.address; value = f.value };
      };
      bank = f.bank;
    }

-- The entries that are left.
abbrev pub entries_left : List → Many Banked
entries_left l = entries_in current l.bytes.now

-- What is made of bytes: their entries, or refusal 12 where they are no list.
pub record IsListOf (bytes : Bor (Many ℕ)) (made : Result List Reason) : Type 0 where
  pub why : given made ≡ first (when (not (is_list current bytes.now)) 12 ∷ [])
  pub entries : IfOk made (λ l. entries_left l ≡ entries_in current bytes.now)
