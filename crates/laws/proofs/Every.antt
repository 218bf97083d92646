-- What holds of every element of a list, of what an option may hold, of both outcomes of a test, and of two lists element by
-- element. Assumes nothing.
use mathlib.Core.Path.{◌≡◌, refl}
use mathlib.Core.Bool.{Bool, true, false, cond, not, ◌&&◌, ◌||◌, beq, false≢true}
use mathlib.Core.List.{List, [], ◌∷◌}
use mathlib.Core.Option.{Option, none, some}

module _ {A : Type 0} (Q : A → Type 0) where
  abbrev pub Every : List A → Type 0
  Every [] = Unit {0}
  Every (x ∷ xs) = Q x × Every xs

  abbrev pub IfAny : Option A → Type 0
  IfAny none = Unit {0}
  IfAny (some x) = Q x

  pub either : (b : Bool) {x y : A} → Q x → Q y → Q (cond b x y)
  either true p q = p
  either false p q = q

-- A test, or an option, taken apart with what it came out as.
pub tested : {Q : Type 0} (b : Bool) → (b ≡ true → Q) → (b ≡ false → Q) → Q
tested true held failed = held refl
tested false held failed = failed refl

pub looked_up : {A Q : Type 0} (o : Option A) → (o ≡ none → Q) → ((x : A) → o ≡ some x → Q) → Q
looked_up none nothing found = nothing refl
looked_up (some x) nothing found = found x refl

-- Both of two tests hold.
pub both : (a b : Bool) → a && b ≡ true → (a ≡ true) × (b ≡ true)
both true b h = (refl, h)
both false b h = absurd (false≢true h)

-- One of two tests holds, and not the second.
pub or_left : (a : Bool) → a || false ≡ true → a ≡ true
or_left true h = refl
or_left false h = h

-- A repeated bit and an inverted one.
pub beq_same : (b : Bool) → beq b b ≡ true
beq_same true = refl
beq_same false = refl

pub beq_not : (b : Bool) → beq (not b) b ≡ false
beq_not true = refl
beq_not false = refl

-- Two lists of one length, related element by element.
abbrev pub Matched : {A : Type 0} → (A → A → Type 0) → List A → List A → Type 0
Matched R [] [] = Unit {0}
Matched R [] (y ∷ ys) = ⊥
Matched R (x ∷ xs) [] = ⊥
Matched R (x ∷ xs) (y ∷ ys) = R x y × Matched R xs ys
