-- The promise of text to rows has one result: two results that meet it are equal, in what is returned and in every lent byte; and so has
-- that of what is told of a fault. (Rows to text promises what every printing job does: print's printed_unique.) Assumes nothing.
use mathlib.Core.Path.{◌≡◌, refl, ap}
use mathlib.Core.List.{List}
use Prim.Native.Nat.{ℕ}
use Rattle.protocol.specs.Fault.{fault_at}
use Rattle.laws.proofs.Unique.{one_result}
use Rattle.std.specs.Prelude.{Result, Ok, Err}
use Rattle.job.specs.declared.Refusal.{Refusal}
use Rattle.job.proofs.Refusals.{one_refusal, ended_unique}
use Rattle.rows_text.specs.RowsText.{bad_form, handed, RowsTaken}

taken_unique : {text cdm cds : List ℕ} {a b : Result ℕ Refusal} {x y v w : List ℕ} → RowsTaken text cdm cds a x v → RowsTaken text cdm cds b y w
    → (a ≡ b) × (x ≡ y) × (v ≡ w)
taken_unique p q = let same = ended_unique p.ends q.ends in (same.0, cc, cc)

one_handed : (a b : Result (Unit {0}) Refusal) → handed a ≡ handed b → a ≡ b
one_handed (Ok x) (Ok y) e = refl
one_handed (Ok x) (Err r) e = cc
one_handed (Err r) (Ok x) e = cc
one_handed (Err r) (Err q) e = ap (λ (x : Refusal). Err x) (one_refusal r q (cc))

formed_unique : (stop end : ℕ) (a b : Result (Unit {0}) Refusal) → handed a ≡ bad_form (fault_at stop end) → handed b ≡ bad_form (fault_at stop end) → a ≡ b
formed_unique stop end a b p q = one_handed a b (one_result p q)
