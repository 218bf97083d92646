-- The job build: when it refuses, and what it makes. The rows themselves are protocol's (specs/Building).
use Rattle.std.specs.Prelude.{Bool, ◌||◌, List, [], ◌∷◌, map, ℕ, ◌+◌, ◌-◌, ltb, eqb, length, Result}
use Rattle.protocol.specs.Limits.{column_limit, id_count, address_count, byte_limit, command_count}
use Rattle.protocol.specs.Bits.{num}
use Rattle.protocol.specs.Building.{Request, read, write, command, row_for}
use Rattle.job.specs.Refusals.{Rule, when, lent, Ended}
use Rattle.job.specs.declared.Refusal.{Refusal}

-- Refusal 10: "id over 7, address over 127, .. count 0 or over 64, or address + count over 128".
unfoldable pub outside_access : (id address count : ℕ) → Bool
outside_access id address count =
    ltb (id_count - 1) id || ltb (address_count - 1) address || eqb count 0 || ltb byte_limit count
    || ltb address_count (address + count)

-- Refusal 10, of a command: "CMD over 3".
unfoldable pub outside : Request → Bool
outside (read id address count wait) = outside_access id address count
outside (write id address bytes wait) = outside_access id address (length bytes)
outside (command ids cmd execute) = ltb (command_count - 1) cmd

-- The row's bytes, a column each.
unfoldable pub made : Request → List ℕ
made r = map num (row_for r)

-- "Build: 10, 9." Refusal 9: "the result needs more room than was lent, and only then". Request 03: "the builder gives 5 when the row
-- would pass 4,096 columns, between 10 and 9".
-- By whether 10 holds, and how many columns the row has.
abbrev pub rules : (out_of_range : Bool) → (columns room : ℕ) → List Rule
rules out_of_range columns room = when out_of_range 10 ∷ when (ltb column_limit columns) 5 ∷ when (ltb room columns) 9 ∷ []

unfoldable pub refusals : Request → (room : ℕ) → List Rule
refusals r room = rules (outside r) (length (made r)) room

-- What build returns to a request, in columns, and what it leaves in the lent row.
pub record Built (r : Request) (out : List ℕ) (outcome : Result ℕ Refusal) (after : List ℕ) : Type 0 where
  pub ends : Ended (refusals r (length out)) (length (made r)) (lent (made r) out ∷ []) outcome (after ∷ [])
