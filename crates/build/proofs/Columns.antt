-- Columns laid: the bits of a number, ones, and a part with what follows it; and a bit as a number. Assumes nothing.
use mathlib.Core.Path.{◌≡◌, refl, sym, ap, ◌∙◌}
use mathlib.Core.Bool.{Bool, true, false}
use mathlib.Core.List.{List, ◌∷◌, ◌++◌, map, map-append, append_assoc}
use Prim.Native.Nat.{ℕ, zero, suc, ◌+◌, ◌-◌, ◌/◌, ◌%◌, ◌^◌, ◌≤◌, ◌<◌}
use native.Mathlib.Omega.{arith}
use mir.Val.{bool_byte}
use borrow.Rule.Slice.PartMut.{mid_of, put_mid}
use lib.ListN.{length, length-map, length-drop, length-replicate, take, drop, set, replicate}
use lib.Seq.{sets, sets-eq, length-take-le, drop-drop}
use Rattle.protocol.specs.Bits.{num, bits}
use Rattle.protocol.proofs.Words.{num_bit}
use Rattle.job.proofs.Laid.{sets_append}

-- One bit of the lowest n, highest first, and then the bits that are left.
pub bit_laid : (out : List ℕ) (at n place w : ℕ) → place < n
    → sets (set out (at + place) (w / 2 ^ (n - 1 - place) % 2)) (at + (place + 1)) (map num (bits (n - (place + 1)) w))
    ≡ sets out (at + place) (map num (bits (n - place) w))
unfolding bits
bit_laid out at n place w h =
    let rest : n - (place + 1) ≡ n - 1 - place = omega arith in
    let left : n - place ≡ suc (n - 1 - place) = omega arith in
    let behind : at + (place + 1) ≡ suc (at + place) = omega arith in
    rw (rest, left, behind, num_bit (n - 1 - place) w)

-- Ones in the place of as many columns.
ones : (n : ℕ) → map num (replicate n true) ≡ replicate n 1
ones zero = refl
ones (suc n) = ap (λ (l : List ℕ). 1 ∷ l) (ones n)

pub ones_laid : (out : List ℕ) (at n : ℕ) → at + n ≤ length out
    → put_mid at (at + n - at) out (replicate (length (mid_of at (at + n - at) out)) 1) ≡ sets out at (map num (replicate n true))
ones_laid out at n h =
    let count : at + n - at ≡ n = omega arith in
    let part : length (take n (drop at out)) ≡ n = length-take-le n (drop at out) (omega (arith, length-drop at out)) in
    let room : at + length (replicate n 1) ≤ length out = rw length-replicate h in
    rw (count, part, drop-drop, ones n, ← append_assoc) (rw length-replicate at (sym (sets-eq (replicate n 1) out at room)))

-- A bit as the code makes a number of it.
pub num_byte : (b : Bool) → bool_byte b ≡ num b
num_byte true = refl
num_byte false = refl

-- A part of the columns laid, and then what follows it.
pub part_laid : (out : List ℕ) (p n : ℕ) (part rest whole : List Bool) → length part ≡ n → part ++ rest ≡ whole
    → sets (sets out p (map num part)) (p + n) (map num rest) ≡ sets out p (map num whole)
part_laid out p n part rest whole long e =
    ap (λ (k : ℕ). sets (sets out p (map num part)) (p + k) (map num rest)) (sym (length-map part num ∙ long))
    ∙ sym (sets_append out p (map num part) (map num rest))
    ∙ ap (sets out p) (sym (map-append num part rest) ∙ ap (map num) e)
