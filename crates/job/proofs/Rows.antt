-- Refusals 5 to 7: the lengths decide before the bytes, and what rows are where none of the three is given. Assumes nothing.
use mathlib.Core.Path.{◌≡◌, refl, ap, ◌∙◌}
use mathlib.Core.Bool.{Bool, true, false, not, ◌&&◌, ◌||◌}
use mathlib.Core.List.{List, [], ◌∷◌}
use mathlib.Core.Option.{none, some, or_else}
use Prim.Native.Nat.{ℕ, ◌≤◌}
use native.Mathlib.Omega.{arith}
use borrow.Author.Tests.{le-ltb, ltb-false, eq-eqb, eqb-true, not-false}
use lib.Dec.{ltb, eqb}
use lib.ListN.{length}
use Rattle.std.proofs.lemmas.Bool.{or_parts}
use Rattle.protocol.specs.Limits.{column_limit}
use Rattle.laws.proofs.Every.{both}
use Rattle.job.specs.Bytes.{are_bits}
use Rattle.job.specs.Refusals.{Refusal, Rule, when, first}
use Rattle.job.specs.Rows.{row_rules, wrong_rows}
use Rattle.job.proofs.Refusals.{no}

-- The three by their conditions.
abbrev three : (long unequal bits : Bool) → List Rule
three long unequal bits = when long 5 ∷ when unequal 6 ∷ when (not bits) 7 ∷ []

judges : (a b bits more : Bool) → or_else (first (three a b bits)) (first (when (not more) 7 ∷ [])) ≡ first (three a b (bits && more))
unfolding first or_else
judges true b bits more = refl
judges false true bits more = refl
judges false false false more = refl
judges false false true more = refl

-- Bytes that are judged beside others: a number that is given stays, else they decide.
judged_too : (columns others : ℕ) (bits more : Bool)
    → or_else (first (row_rules columns others bits)) (first (when (not more) 7 ∷ [])) ≡ first (row_rules columns others (bits && more))
unfolding row_rules
judged_too columns others bits more =
    judges (ltb column_limit columns || ltb column_limit others) (not (eqb columns others)) bits more

module _ (columns others : ℕ) (bits more : Bool) where
  -- So what is given before those bytes are judged stays ..
  pub decided_before : (r : Refusal) → some r ≡ first (row_rules columns others bits) → some r ≡ first (row_rules columns others (bits && more))
  unfolding or_else
  decided_before r e = ap (λ f. or_else f (first (when (not more) 7 ∷ []))) e ∙ judged_too columns others bits more

  -- .. and where nothing is, they decide.
  pub decided_by_bytes : none ≡ first (row_rules columns others bits)
      → first (when (not more) 7 ∷ []) ≡ first (row_rules columns others (bits && more))
  unfolding or_else
  decided_by_bytes e = ap (λ f. or_else f (first (when (not more) 7 ∷ []))) e ∙ judged_too columns others bits more

-- Two rows that are refused by none of the three.
pub record Right (cdm cds : List ℕ) : Type 0 where
  pub short : length cdm ≤ column_limit
  pub same : length cdm ≡ length cds
  pub cdm_bits : are_bits cdm ≡ true
  pub cds_bits : are_bits cds ≡ true

module _ (cdm cds : List ℕ) where
  pub right_rows : first (wrong_rows cdm cds) ≡ none → Right cdm cds
  unfolding wrong_rows row_rules
  right_rows e =
      let bits = both (are_bits cdm) (are_bits cds) (not-false _ (no 7 _ e)) in
      record {
        short = ltb-false _ _ (or_parts _ _ (no 5 _ e)).0;
        same = eqb-true _ _ (not-false _ (no 6 _ e));
        cdm_bits = bits.0;
        cds_bits = bits.1;
      }

  pub not_wrong : Right cdm cds → first (wrong_rows cdm cds) ≡ none
  unfolding wrong_rows row_rules first
  not_wrong rows =
      let short : length cds ≤ column_limit = omega (arith, rows.short, rows.same) in
      rw (
        le-ltb column_limit (length cdm) rows.short,
        le-ltb column_limit (length cds) short,
        eq-eqb (length cdm) (length cds) rows.same,
        rows.cdm_bits,
        rows.cds_bits,
      )
