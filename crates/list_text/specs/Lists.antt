-- A list to text: when the call refuses, and what it makes. The text itself is protocol's (specs/Text).
use Rattle.std.specs.Prelude.{not, cond, true, false, List, [], ◌∷◌, ℕ, ltb, length, Option, Some, None, Result}
use Rattle.protocol.specs.Banks.{Banked}
use Rattle.protocol.specs.Layout.{Field, current, entries_in, is_list, named, value_of}
use Rattle.protocol.specs.Text.{field, list_text}
use Rattle.job.specs.Refusals.{Rule, when}
use Rattle.job.specs.declared.Refusal.{Refusal}
use Rattle.print.specs.Printed.{Printed}

-- "List to text: 12, 9." 12: no list, by its length or a kind; 9: "the result needs more room than was lent, and only then".
unfoldable pub list_refusals : (list : List ℕ) → (room : ℕ) → List Rule
list_refusals list room =
    when (not (is_list current list)) 12 ∷ when (ltb room (length (list_text (entries_in current list)))) 9 ∷ []

-- What list to text promises.
abbrev pub ListPrinted : (list out : List ℕ) → Result ℕ Refusal → (after : List ℕ) → Type 0
ListPrinted list out outcome after =
    Printed (list_refusals list (length out)) (list_text (entries_in current list)) out outcome after

-- A field's number, if the entry names it ..
abbrev pub number_in : Banked → Field → Option ℕ
number_in e f = cond (named e f) (Some (value_of e f)) None

-- .. and how that is printed.
abbrev pub cell : Option ℕ → List ℕ
cell None = field false 0
cell (Some n) = field true n
