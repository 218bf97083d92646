-- The parts of a row that build's helpers lay, for their contracts: nothing here is needed to read what build promises.
use Rattle.std.specs.Prelude.{◌≡◌, Bool, false, cond, not, List, [], ◌∷◌, ◌++◌, map, ℕ, ◌+◌, length, replicate, Result}
use Rattle.std.proofs.lemmas.List.Edits.{sets}
use Rattle.protocol.specs.Limits.{rest_zeros}
use Rattle.protocol.specs.Bits.{num}
use Rattle.protocol.specs.Header.{access_word}
use Rattle.protocol.specs.Building.{frame_head, byte_columns}
use Rattle.job.specs.Refusals.{lent, Ended}
use Rattle.job.specs.declared.Refusal.{Refusal}
use Rattle.build.specs.Build.{outside_access, rules}

-- Fourteen zeros, S and the header.
unfoldable pub lead : ℕ → List Bool
lead header = replicate rest_zeros false ++ frame_head header

-- R and W as one number: "R = 1, W = 0 reads; R = 0, W = 1 writes."
abbrev pub way : (writing : Bool) → ℕ
way writing = cond writing 1 2

-- The columns of a register access before its bytes.
unfoldable pub access_lead : (writing : Bool) → (id address : ℕ) → List Bool
access_lead writing id address = lead (access_word id address) ++ not writing ∷ writing ∷ []

-- The row of an access of bytes of these twelve bits: its first columns, and theirs.
abbrev pub access_row : (writing : Bool) → (id address wait : ℕ) → (twelves : List (List Bool)) → List ℕ
access_row writing id address wait twelves =
    map num (access_lead writing id address) ++ map num (byte_columns writing wait 1 twelves)

-- What is returned to such an access, in columns, and what is left in the lent row.
pub record Accessed (writing : Bool) (id address wait : ℕ) (twelves : List (List Bool)) (out : List ℕ) (outcome : Result ℕ Refusal)
    (after : List ℕ) : Type 0 where
  pub ends : Ended (rules (outside_access id address (length twelves)) (length (access_row writing id address wait twelves)) (length out))
      (length (access_row writing id address wait twelves))
      (lent (access_row writing id address wait twelves) out ∷ [])
      outcome
      (after ∷ [])

-- Columns laid in a row from `at` on, and the column behind them.
abbrev pub Laid : (columns : List Bool) → (at : ℕ) → (before : List ℕ) → (behind : ℕ) → (after : List ℕ) → Type 0
Laid columns at before behind after = (behind ≡ at + length columns) × (after ≡ sets before at (map num columns))
