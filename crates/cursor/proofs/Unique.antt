-- Each promise of this crate has one result: two results that meet it are equal. Assumes nothing.
use mathlib.Core.Path.{◌≡◌, refl, ap}
use mathlib.Core.Bool.{Bool}
use mathlib.Core.List.{List, map}
use Prim.Native.Nat.{ℕ, ◌+◌}
use native.Mathlib.Omega.{arith}
use lib.ListN.{drop}
use denote.Ref.{Bor}
use Rattle.protocol.specs.Text.{Form, begins}
use Rattle.protocol.specs.Fault.{line_at, byte_at, stop, Fault, fault_at}
use Rattle.laws.proofs.Unique.{one_result}
use Rattle.std.specs.Prelude as Code
use Rattle.job.specs.declared.Reason.{Reason}
use Rattle.job.specs.Refusals.{number}
use Rattle.job.proofs.Refusals.{one_reason}
use Rattle.cursor.specs.Cursor.{fault_of}
use Rattle.cursor.specs.declared.Cursor.{Cursor}

new_unique : (text : Bor (List ℕ)) (a b : Cursor) → (a.text ≡ text) × (a.at ≡ 0) → (b.text ≡ text) × (b.at ≡ 0)
    → (a.text ≡ b.text) × (a.at ≡ b.at)
new_unique text a b p q = (one_result p.0 q.0, one_result p.1 q.1)

walked_unique : (cursor a b : Cursor)
    → (a.text ≡ cursor.text) × (a.at ≡ stop cursor.at (drop cursor.at cursor.text.now))
    → (b.text ≡ cursor.text) × (b.at ≡ stop cursor.at (drop cursor.at cursor.text.now))
    → (a.text ≡ b.text) × (a.at ≡ b.at)
walked_unique cursor a b p q = (one_result p.0 q.0, one_result p.1 q.1)

place_unique : (cursor : Cursor) (a b : ℕ) → a ≡ cursor.at → b ≡ cursor.at → a ≡ b
place_unique cursor a b p q = one_result p q

stop_of_unique : (text : List ℕ) (a b : ℕ) → a ≡ stop 0 text → b ≡ stop 0 text → a ≡ b
stop_of_unique text a b p q = one_result p q

stop_in_unique : (piece : List ℕ) (place a b : ℕ) → a + place ≡ stop place piece → b + place ≡ stop place piece → a ≡ b
stop_in_unique piece place a b p q = omega arith

begins_with_unique : (text line : List ℕ) (a b : Bool) → a ≡ begins (map Form.exactly line) text → b ≡ begins (map Form.exactly line) text → a ≡ b
begins_with_unique text line a b p q = one_result p q

line_at_unique : (place a b : ℕ) → a ≡ line_at place → b ≡ line_at place → a ≡ b
line_at_unique place a b p q = one_result p q

byte_at_unique : (place a b : ℕ) → a ≡ byte_at place → b ≡ byte_at place → a ≡ b
byte_at_unique place a b p q = one_result p q

one_fault : (place : ℕ) (a b : Code.Option Reason) → fault_of place a ≡ fault_of place b → a ≡ b
one_fault place Code.None Code.None e = refl
one_fault place Code.None (Code.Some b) e = cc
one_fault place (Code.Some a) Code.None e = cc
one_fault place (Code.Some a) (Code.Some b) e =
    let inside : ◌≡◌ {A = Fault} (record { number = number a; line = line_at place; byte = byte_at place }) (record { number = number b; line = line_at place; byte = byte_at place })
    = cc in
    ap (λ (r : Reason). Code.Some r) (one_reason a b (ap (λ (f : Fault). f.number) inside))

fault_unique : (at end : ℕ) (a b : Code.Option Reason) → fault_of at a ≡ fault_at at end → fault_of at b ≡ fault_at at end → a ≡ b
fault_unique at end a b p q = one_fault at a b (one_result p q)
