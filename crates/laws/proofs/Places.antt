-- Places of a list: those that it has, and what is put there and stands there. Assumes nothing.
use mathlib.Core.Path.{◌≡◌, refl, sym, ap}
use mathlib.Core.List.{List, [], ◌∷◌}
use mathlib.Core.Option.{none, some, none-ne-some, some-injective}
use Prim.Native.Nat.{ℕ, zero, suc, ◌+◌, ◌≤◌, ◌<◌}
use native.Mathlib.Nat.{suc_inj, zero-add, suc-add}
use native.Mathlib.Omega.{arith}
use lib.ListN.{length, drop, set, get_or, get_elem?}
use Rattle.laws.proofs.Every.{Every}

module _ {A : Type 0} where
  -- A place that the list has lies below its length, any other at it or past it.
  pub inside : (l : List A) (i : ℕ) (x : A) → get_elem? l i ≡ some x → i < length l
  inside [] i x e = absurd (none-ne-some _ e)
  inside (y ∷ l) zero x e = omega arith
  inside (y ∷ l) (suc i) x e = omega (arith, inside l i x e)

  pub outside : (l : List A) (i : ℕ) → get_elem? l i ≡ none → length l ≤ i
  outside [] i e = omega arith
  outside (y ∷ l) zero e = absurd (none-ne-some _ (sym e))
  outside (y ∷ l) (suc i) e = omega (arith, outside l i e)

  -- What stands at a place of a list without its first ones.
  pub at_drop : (n : ℕ) (l : List A) (i : ℕ) → get_elem? (drop n l) i ≡ get_elem? l (n + i)
  at_drop zero l i = rw (zero-add i)
  at_drop (suc n) [] i = refl
  at_drop (suc n) (x ∷ l) i = rw (suc-add n i) (at_drop n l i)

  -- Put back what stands there, and nothing changes; what was put there stands there.
  pub set_same : (l : List A) (i : ℕ) (x : A) → get_elem? l i ≡ some x → set l i x ≡ l
  set_same [] i x e = refl
  set_same (y ∷ l) zero x e = ap (λ (v : A). v ∷ l) (sym (some-injective y x e))
  set_same (y ∷ l) (suc i) x e = ap {B = List A} (λ v. y ∷ v) (set_same l i x e)

  pub at_set : (l : List A) (i : ℕ) (x y : A) → get_elem? l i ≡ some x → get_elem? (set l i y) i ≡ some y
  at_set [] i x y e = absurd (none-ne-some _ e)
  at_set (v ∷ l) zero x y e = refl
  at_set (v ∷ l) (suc i) x y e = at_set l i x y e

  -- The same put at the same place of two lists of one length: they are alike wherever they were, and at that place.
  pub set_like : (l l' : List A) (i j : ℕ) (v d : A) → length l ≡ length l' → get_or l j d ≡ get_or l' j d
      → get_or (set l i v) j d ≡ get_or (set l' i v) j d
  set_like [] [] i j v d n e = refl
  set_like [] (y ∷ l') i j v d n e = absurd (omega arith)
  set_like (x ∷ l) [] i j v d n e = absurd (omega arith)
  set_like (x ∷ l) (y ∷ l') zero zero v d n e = refl
  set_like (x ∷ l) (y ∷ l') zero (suc j) v d n e = e
  set_like (x ∷ l) (y ∷ l') (suc i) zero v d n e = e
  set_like (x ∷ l) (y ∷ l') (suc i) (suc j) v d n e = set_like l l' i j v d (suc_inj n) e

  pub set_here : (l l' : List A) (i : ℕ) (v d : A) → length l ≡ length l' → get_or (set l i v) i d ≡ get_or (set l' i v) i d
  set_here [] [] i v d n = refl
  set_here [] (y ∷ l') i v d n = absurd (omega arith)
  set_here (x ∷ l) [] i v d n = absurd (omega arith)
  set_here (x ∷ l) (y ∷ l') zero v d n = refl
  set_here (x ∷ l) (y ∷ l') (suc i) v d n = set_here l l' i v d (suc_inj n)

  -- What holds of the one put and of the one that stood at a place holds of the one that stands there then.
  pub set_keeps : (Q : A → Type 0) (l : List A) (i j : ℕ) (v d : A) → Q v → Q (get_or l j d) → Q (get_or (set l i v) j d)
  set_keeps Q [] i j v d h b = b
  set_keeps Q (x ∷ l) zero zero v d h b = h
  set_keeps Q (x ∷ l) zero (suc j) v d h b = b
  set_keeps Q (x ∷ l) (suc i) zero v d h b = b
  set_keeps Q (x ∷ l) (suc i) (suc j) v d h b = set_keeps Q l i j v d h b

  -- Where there is a value no default matters.
  pub any_default : (l : List A) (i : ℕ) (d d' : A) → i < length l → get_or l i d ≡ get_or l i d'
  any_default [] i d d' h = absurd (omega arith)
  any_default (x ∷ l) zero d d' h = refl
  any_default (x ∷ l) (suc i) d d' h = any_default l i d d' (omega arith)

  -- What holds of all holds at a place.
  pub every_at : (Q : A → Type 0) (l : List A) (i : ℕ) (x : A) → Every Q l → get_elem? l i ≡ some x → Q x
  every_at Q [] i x q e = absurd (none-ne-some _ e)
  every_at Q (y ∷ l) zero x q e = rw (some-injective y x e) at q.0
  every_at Q (y ∷ l) (suc i) x q e = every_at Q l i x q.1 e
