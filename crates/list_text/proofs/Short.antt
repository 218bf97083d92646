-- How long an entry's line can get. Assumes nothing.
use mathlib.Core.Bool.{Bool, true, false, ◌&&◌, and-false}
use Prim.Native.Nat.{ℕ, suc, ◌+◌, ◌^◌, ◌≤◌, ◌<◌}
use native.Mathlib.Omega.{arith}
use borrow.Author.Tests.{ltb-true}
use lib.Dec.{ltb}
use lib.ListN.{length, length-append}
use Rattle.protocol.specs.Limits.{bank_size}
use Rattle.protocol.specs.Banks.{Banked}
use Rattle.protocol.specs.Layout.{Field, named}
use Rattle.protocol.specs.Text.{field, cells, entry_line}
use Rattle.laws.proofs.Every.{tested}
use Rattle.print.proofs.Decimal.{decimal_short}
use Rattle.names.proofs.Length.{kind_short}

-- A field of at most d + 1 digits has its TAB before it, and `-` has one byte.
field_short : (b : Bool) (d n : ℕ) → n < 10 ^ suc d → length (field b n) ≤ d + 2
unfolding field
field_short true d n h = omega (arith, decimal_short d n h)
field_short false d n h = omega arith

-- An address that has a bank has at most two digits.
banked_short : (named : Bool) (address bank : ℕ) → address < 10 ^ 3 → bank < 10 ^ 3
    → length (field named address) + length (field (named && ltb address bank_size) bank) ≤ 7
unfolding field
banked_short named address bank a b =
    tested (ltb address bank_size)
    (λ q.
    let low = ltb-true address bank_size q in
    omega (arith, field_short named 1 address (omega arith), field_short (named && ltb address bank_size) 2 bank b))
    (λ q. rw (q, and-false named) (omega (arith, field_short named 2 address a)))

-- The name, five digits of either column, two of the address, three of each other field, their TABs and the line feed.
abbrev pub line_limit : ℕ
line_limit = 36

pub line_short : (e : Banked) → e.entry.place.column < 10 ^ 5 → e.entry.place.start < 10 ^ 5 → e.entry.event.id < 10 ^ 3
    → e.entry.event.address < 10 ^ 3 → e.bank < 10 ^ 3 → e.entry.event.value < 10 ^ 3 → length (entry_line e) ≤ line_limit
unfolding entry_line cells
line_short e c s i a b v =
    simp length-append
    (omega (
      arith,
      kind_short e.entry.event.kind,
      field_short (named e Field.column) 4 e.entry.place.column c,
      field_short (named e Field.start) 4 e.entry.place.start s,
      field_short (named e Field.id) 2 e.entry.event.id i,
      banked_short (named e Field.address) e.entry.event.address e.bank a b,
      field_short (named e Field.value) 2 e.entry.event.value v,
    ))
