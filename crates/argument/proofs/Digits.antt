-- An argument digit by digit, and what it asks by its branches. Assumes nothing.
use mathlib.Core.Path.{◌≡◌, refl, sym, ap, ◌∙◌}
use mathlib.Core.Bool.{true, false, ◌&&◌, and-false}
use mathlib.Core.List.{List, [], ◌∷◌, map}
use Prim.Native.Nat.{ℕ, ◌+◌, ◌-◌, ◌*◌, ◌≤◌, ◌<◌, min}
use native.Mathlib.Nat.{min-eq_left, min-eq_right}
use native.Mathlib.Numerals.{add-one}
use native.Mathlib.Omega.{arith}
use borrow.Author.Tests.{ltb-true, ltb-false}
use lib.Dec.{ltb, eqb, eqb-suc-zero, eqb-zero-suc, eqb-suc-suc}
use lib.Pointwise.{pointwise}
use lib.ListN.{length, drop, get_or, drop_of_length-le}
use lib.Seq.{drop-cons}
use Rattle.laws.proofs.Every.{tested}
use Rattle.protocol.specs.Text.{exactly, begins}
use Rattle.argument.specs.Argument.{farthest, is_digit, asked_from}
use Rattle.std.specs.Prelude.{Some, None}
use Rattle.argument.specs.declared.Asked.TheVariants.{Column}

-- Past the farthest column all numbers ask alike, so it stands for each of them.
past : (n : ℕ) (argument : List ℕ) → farthest ≤ n → asked_from n argument ≡ asked_from farthest argument
unfolding asked_from
past n [] h = ap (λ (m : ℕ). Some (Column m)) (min-eq_right h)
past n (b ∷ argument) h =
    let on : farthest ≤ 10 * n + (b - 48) = omega arith in
    tested (is_digit b) (λ q. rw q (past (10 * n + (b - 48)) argument on ∙ sym (past (10 * farthest + (b - 48)) argument (omega arith))))
    (λ q. rw q)

capped : (n : ℕ) (argument : List ℕ) → asked_from (min n farthest) argument ≡ asked_from n argument
capped n argument =
    tested (ltb n farthest) (λ q. let near : n ≤ farthest = omega (arith, ltb-true n farthest q) in rw (min-eq_left near))
    (λ q. let far : farthest ≤ n = ltb-false n farthest q in rw (min-eq_right far) (sym (past n argument far)))

-- What is left of an argument behind the number n: one digit more, another byte, or nothing.
module _ (argument : List ℕ) (n i : ℕ) where
  pub digit_more : i < length argument → is_digit (get_or argument i 0) ≡ true
      → asked_from (min (10 * n + (get_or argument i 0 - 48)) farthest) (drop (i + 1) argument) ≡ asked_from n (drop i argument)
  unfolding asked_from
  digit_more h q =
      capped (10 * n + (get_or argument i 0 - 48)) (drop (i + 1) argument) ∙ sym (rw (drop-cons argument i 0 h, q, add-one))

  pub no_digit : i < length argument → is_digit (get_or argument i 0) ≡ false → None ≡ asked_from n (drop i argument)
  unfolding asked_from
  no_digit h q = rw (drop-cons argument i 0 h, q)

  pub no_more : length argument ≤ i → n ≤ farthest → Some (Column n) ≡ asked_from n (drop i argument)
  unfolding asked_from
  no_more h k = rw (drop_of_length-le argument h) (ap (λ (m : ℕ). Some (Column m)) (sym (min-eq_left k)))

-- An argument is a line where it has its length and begins with it.
pub same_line : (line argument : List ℕ) → pointwise eqb argument line ≡ (eqb (length argument) (length line) && begins (map exactly line) argument)
unfolding begins
same_line [] [] = refl
same_line [] (b ∷ argument) = rw (eqb-suc-zero (length argument))
same_line (x ∷ line) [] = rw (eqb-zero-suc (length line))
same_line (x ∷ line) (b ∷ argument) =
    rw (same_line line argument)
    (tested (eqb b x) (λ q. rw (q, eqb-suc-suc (length argument) (length line))) (λ q. rw (q, and-false)))
