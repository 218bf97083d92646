-- What a request that refusal 10 lets through keeps to. Assumes nothing.
use mathlib.Core.Path.{◌≡◌}
use mathlib.Core.Bool.{Bool, false, ◌||◌}
use Prim.Native.Nat.{ℕ, ◌+◌, ◌-◌, ◌*◌, ◌≤◌, ◌<◌}
use native.Mathlib.Nat.{mul-le-mul}
use native.Mathlib.Omega.{arith}
use borrow.Author.Tests.{ltb-false, eqb-false}
use lib.Dec.{ltb, eqb}
use Rattle.protocol.specs.Limits.{id_count, address_count, byte_limit}
use Rattle.std.proofs.lemmas.Bool.{or_parts}
use Rattle.build.specs.Build.{outside_access}

pub record Inside (id address count : ℕ) : Type 0 where
  pub id_low : id ≤ id_count - 1
  pub address_low : address ≤ address_count - 1
  pub some_bytes : count ≡ 0 → ⊥
  pub few_bytes : count ≤ byte_limit
  pub end_low : address + count ≤ address_count

pub inside : (id address count : ℕ) → outside_access id address count ≡ false → Inside id address count
unfolding outside_access
inside id address count e =
    let high : Bool = ltb (id_count - 1) id in
    let past : Bool = high || ltb (address_count - 1) address in
    let empty : Bool = past || eqb count 0 in
    let many : Bool = empty || ltb byte_limit count in
    let e₁ : many ≡ false = (or_parts many _ e).0 in
    let e₂ : empty ≡ false = (or_parts empty _ e₁).0 in
    let e₃ : past ≡ false = (or_parts past _ e₂).0 in
    record {
      id_low = ltb-false _ _ (or_parts high _ e₃).0;
      address_low = ltb-false _ _ (or_parts high _ e₃).1;
      some_bytes = eqb-false _ _ (or_parts past _ e₂).1;
      few_bytes = ltb-false _ _ (or_parts empty _ e₁).1;
      end_low = ltb-false _ _ (or_parts many _ e).1;
    }

-- At most 64 bytes wait, each at most 255 times.
pub few_waits : (wait n : ℕ) → wait < 256 → n ≤ byte_limit → wait * n ≤ 16320
few_waits wait n h k = mul-le-mul {n₂ = 255} {m₂ = 64} (omega arith) k
