-- Bytes laid one part after the other are all of them laid at once. Assumes nothing.
use mathlib.Core.Path.{◌≡◌, refl, sym, ap, ◌∙◌}
use mathlib.Core.List.{List, [], ◌∷◌, ◌++◌}
use Prim.Native.Nat.{ℕ, ◌+◌}
use native.Mathlib.Nat.{add_assoc}
use lib.ListN.{length, length-append, set}
use lib.Seq.{sets, length-sets}
use Rattle.job.proofs.Laid.{sets_append}
use Rattle.print.specs.Laid.{Laid}

-- What is left to lay behind a part, laid on the buffer that has the part, is all of it laid on the buffer before.
pub part_laid : {vs l l' : List ℕ} {at p : ℕ} → Laid vs at l p l' → (ws : List ℕ) → sets l' p ws ≡ sets l at (vs ++ ws)
part_laid {vs} {l} {l'} {at} {p} one ws = rw (one.laid, one.behind) (sym (sets_append l at vs ws))

-- A part, and another behind it.
pub then : {vs ws l l' l'' : List ℕ} {at p r : ℕ} → Laid vs at l p l' → Laid ws p l' r l'' → Laid (vs ++ ws) at l r l''
then {vs} {ws} {l} {l'} {l''} {at} {p} {r} one two =
    record {
      behind = two.behind ∙ ap (λ (n : ℕ). n + length ws) one.behind ∙ add_assoc at (length vs) (length ws) ∙ ap (λ (n : ℕ). at + n) (sym (length-append vs ws));
      laid = two.laid ∙ part_laid one ws;
    }

-- The same bytes under another name.
pub renamed : {vs ws l l' : List ℕ} {at r : ℕ} → vs ≡ ws → Laid vs at l r l' → Laid ws at l r l'
renamed e put = record { behind = rw (← e) put.behind; laid = rw (← e) put.laid }

-- One byte.
pub one_byte : (l : List ℕ) (at v : ℕ) → Laid (v ∷ []) at l (at + 1) (set l at v)
one_byte l at v = record { behind = refl; laid = refl }

-- The buffer keeps its length.
pub laid_length : {vs l l' : List ℕ} {at r : ℕ} → Laid vs at l r l' → length l' ≡ length l
laid_length {vs} {l} {l'} {at} {r} h = ap length h.laid ∙ length-sets l at vs
