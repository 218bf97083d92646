-- Rest: "From any moment, fourteen zeros bring every slave and the reader to rest; they stay there while zeros last." And not sooner:
-- zeros that do not make fourteen in a row bring nobody there. Stated for any machine behind Rest's judge. Assumes nothing.
use mathlib.Core.Path.{◌≡◌, refl, ap, ◌∙◌}
use mathlib.Core.Bool.{Bool, true, false}
use mathlib.Core.List.{List, [], ◌∷◌}
use mathlib.Core.Option.{Option, none, some, none-ne-some}
use Prim.Native.Nat.{ℕ, suc, ◌+◌, ◌≤◌, ◌<◌}
use native.Mathlib.Nat.{add-zero}
use native.Mathlib.Omega.{arith}
use borrow.Author.Tests.{lt-ltb, le-ltb, ltb-true, ltb-false}
use lib.Dec.{ltb}
use lib.ListN.{length}
use Rattle.protocol.specs.Limits.{rest_zeros}
use Rattle.protocol.specs.Rest.{Timed, power, rest, frame, Judged, still, ends, meant, timer, judge}

-- A machine's next state, where f is what the column does to its phase.
abbrev pub moved : {P : Type 0} → (P → P) → Judged P → Timed P
moved f (still s) = s
moved f ends = rest
moved f (meant z p) = frame z (f p)

module _ {P : Type 0} (begun : P) where
  -- The state after as many zeros as there are fs, each doing what it likes to the phase.
  unfoldable pub settled : Timed P → List (P → P) → Timed P
  settled s [] = s
  settled s (f ∷ fs) = settled (moved f (judge begun s false)) fs

  -- How many zeros in a row a machine that is not at rest has seen just now.
  abbrev pub zeros_of : Timed P → Option ℕ
  zeros_of (power z) = some z
  zeros_of rest = none
  zeros_of (frame z p) = some z

  -- "they stay there while zeros last"
  pub stays : (fs : List (P → P)) → settled rest fs ≡ rest
  unfolding settled judge
  stays [] = refl
  stays (f ∷ fs) = stays fs

  -- One zero more: it counts, or it is the fourteenth.
  counts : (f : P → P) (s : Timed P) (z : ℕ) → zeros_of s ≡ some z → z + 1 < rest_zeros
      → zeros_of (moved f (judge begun s false)) ≡ some (z + 1)
  unfolding judge timer
  counts f rest z e h = absurd (none-ne-some _ e)
  counts f (power y) z e h = let q : y ≡ z = cc in rw (q, lt-ltb (z + 1) rest_zeros h)
  counts f (frame y p) z e h = let q : y ≡ z = cc in rw (q, lt-ltb (z + 1) rest_zeros h)

  rests : (f : P → P) (s : Timed P) (z : ℕ) → zeros_of s ≡ some z → rest_zeros ≤ z + 1 → moved f (judge begun s false) ≡ rest
  unfolding judge timer
  rests f rest z e h = refl
  rests f (power y) z e h = let q : y ≡ z = cc in rw (q, le-ltb (z + 1) rest_zeros h)
  rests f (frame y p) z e h = let q : y ≡ z = cc in rw (q, le-ltb (z + 1) rest_zeros h)

  comes : (fs : List (P → P)) (s : Timed P) (z : ℕ) → zeros_of s ≡ some z → 0 < length fs → rest_zeros ≤ z + length fs
      → settled s fs ≡ rest
  unfolding settled
  comes [] s z e h k = absurd (omega arith)
  comes (f ∷ fs) s z e h k = go (ltb (z + 1) rest_zeros) refl (λ a b d. comes fs (moved f (judge begun s false)) (z + 1) a b d)
    where
      next : Timed P
      next = moved f (judge begun s false)

      go : (b : Bool) → ltb (z + 1) rest_zeros ≡ b
          → (zeros_of next ≡ some (z + 1) → 0 < length fs → rest_zeros ≤ z + 1 + length fs → settled next fs ≡ rest)
          → settled next fs ≡ rest
      go true q onward =
          let l : z + 1 < rest_zeros = ltb-true _ _ q in onward (counts f s z e l) (omega arith) (omega arith)
      go false q onward = rw (rests f s z e (ltb-false _ _ q)) (stays fs)

  -- "From any moment, fourteen zeros bring every slave and the reader to rest"
  pub fourteen : (s : Timed P) (fs : List (P → P)) → rest_zeros ≤ length fs → settled s fs ≡ rest
  fourteen rest fs h = stays fs
  fourteen (power z) fs h = comes fs (power z) z refl (omega arith) (omega arith)
  fourteen (frame z p) fs h = comes fs (frame z p) z refl (omega arith) (omega arith)

  -- Not sooner: z zeros in a row and too few more are still counted.
  pub not_sooner : (fs : List (P → P)) (s : Timed P) (z : ℕ) → zeros_of s ≡ some z → z + length fs < rest_zeros
      → zeros_of (settled s fs) ≡ some (z + length fs)
  unfolding settled
  not_sooner [] s z e h = rw add-zero e
  not_sooner (f ∷ fs) s z e h =
      let k : z + 1 < rest_zeros = omega arith in
      let more : z + 1 + length fs < rest_zeros = omega arith in
      not_sooner fs (moved f (judge begun s false)) (z + 1) (counts f s z e k) more ∙ ap (λ (n : ℕ). some n) (omega arith)

  -- So many zeros, whatever each does to the phase, bring the state to rest.
  abbrev pub Soon : ℕ → Timed P → Type 0
  Soon n s = (fs : List (P → P)) → n ≤ length fs → settled s fs ≡ rest

  pub soon_moved : (f : P → P) (s : Timed P) (n : ℕ) → Soon (suc n) s → Soon n (moved f (judge begun s false))
  unfolding settled
  soon_moved f s n h fs k = h (f ∷ fs) (omega arith)

  pub soon_rest : (s : Timed P) → Soon 0 s → s ≡ rest
  unfolding settled
  soon_rest s h = h [] (omega arith)
