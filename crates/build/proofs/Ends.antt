-- How build ends: what lets a request through, and the two ends of any of the three calls. Assumes nothing.
use mathlib.Core.Path.{◌≡◌, sym, ◌∙◌}
use mathlib.Core.Bool.{Bool, false}
use mathlib.Core.List.{List, [], ◌∷◌, map}
use mathlib.Core.Option.{none, some}
use Prim.Native.Nat.{ℕ, ◌+◌, ◌≤◌}
use native.Mathlib.Omega.{arith}
use borrow.Author.Tests.{ltb-false}
use Rattle.std.specs.Prelude.{Result, Ok, Err}
use lib.ListN.{length}
use lib.Seq.{sets, length-sets}
use Rattle.protocol.specs.Bits.{num}
use Rattle.protocol.specs.Building.{Request, byte_columns}
use Rattle.job.specs.Refusals.{alone, refusal, number, first, lent, Ended}
use Rattle.job.specs.declared.Refusal.{Refusal}
use Rattle.job.specs.declared.Reason.{Reason}
use Rattle.job.specs.declared.Detail.TheVariants.{Alone}
use Rattle.job.proofs.Refusals.{no, laid, ended_refused, ended_made}
use Rattle.job.proofs.Laid.{sets_append}
use Rattle.build.specs.Build.{outside_access, outside, made, rules, refusals, Built}
use Rattle.build.specs.Parts.{access_lead, access_row, Accessed, Laid}
use Rattle.build.proofs.Rows.{length_lead, length_access}

-- What is known where nothing refuses.
module _ (out_of_range : Bool) (columns room : ℕ) (e : first (rules out_of_range columns room) ≡ none) where
  pub is_inside : out_of_range ≡ false
  is_inside = no 10 _ e

  pub fits : columns ≤ room
  fits = ltb-false _ _ (no 9 _ e)

-- The two ends of a call that is refused by these rules and makes this row.
module _ (out_of_range : Bool) (row out : List ℕ) where
  abbrev Ends : Result ℕ Refusal → (after : List ℕ) → Type 0
  Ends outcome after =
      Ended (rules out_of_range (length row) (length out)) (length row) (lent row out ∷ []) outcome (after ∷ [])

  pub ends_refused : (reason : Reason) → some (refusal (number reason) alone) ≡ first (rules out_of_range (length row) (length out))
      → Ends (Err (record { reason = reason; beside = Alone })) out
  ends_refused reason e = ended_refused _ _ _ (record { reason = reason; beside = Alone }) (sym e)

  pub ends_made : (after : List ℕ) (n : ℕ) → first (rules out_of_range (length row) (length out)) ≡ none → n ≡ length row
      → after ≡ sets out 0 row → Ends (Ok n) after
  ends_made after n e count put = ended_made _ _ _ n _ e count (rw (put, laid row out (fits _ _ _ e)))

-- Where nothing refuses an access, its first columns and then its bytes' make its row.
module _ (writing : Bool) (id address wait : ℕ) (twelves : List (List Bool)) (out : List ℕ)
    (e : first (rules (outside_access id address (length twelves)) (length (access_row writing id address wait twelves)) (length out)) ≡ none)
  where
    room : 32 + length (byte_columns writing wait 1 twelves) ≤ length out
    room = rw (← length_access writing id address wait twelves) (fits _ _ _ e)

    pub head_room : 32 ≤ length out
    head_room = omega (arith, room)

    module _ (led : List ℕ) (put : led ≡ sets out 0 (map num (access_lead writing id address))) where
      pub bytes_room : 32 + length (byte_columns writing wait 1 twelves) ≤ length led
      bytes_room = rw (put, length-sets) room

      pub access_made : {n : ℕ} {after : List ℕ} → Laid (byte_columns writing wait 1 twelves) 32 led n after
          → Accessed writing id address wait twelves out (Ok n) after
      access_made {n} {after} behind =
          record {
            ends = ends_made _ _ out after n e (behind.0 ∙ sym (length_access writing id address wait twelves))
                (rw (behind.1, put, sets_append, length_lead));
          }

-- A request that is outside as such an access is, and has its row, is built by it.
pub accessed_built : {writing : Bool} {id address wait : ℕ} {twelves : List (List Bool)} {out after : List ℕ} {outcome : Result ℕ Refusal}
    (r : Request) → outside r ≡ outside_access id address (length twelves) → made r ≡ access_row writing id address wait twelves
    → Accessed writing id address wait twelves out outcome after → Built r out outcome after
unfolding refusals
accessed_built r bounds row accessed = record { ends = rw (bounds, row) accessed.ends }
