-- The lent buffer: entries laid one after the other while there is room. Assumes nothing.
use mathlib.Core.Path.{◌≡◌, refl, ap, ◌∙◌}
use mathlib.Core.List.{List, [], ◌∷◌, ◌++◌, append_assoc, append-nil}
use Prim.Native.Nat.{ℕ, ◌+◌, ◌*◌, ◌≤◌}
use native.Mathlib.Nat.{add-zero}
use native.Mathlib.Omega.{arith}
use borrow.Author.Tests.{lt-ltb}
use lib.Dec.{ltb}
use lib.ListN.{length, drop, length-append, length-drop}
use lib.Seq.{sets, sets-eq, length-sets, take_at, drop-append-add, drop-drop}
use Rattle.protocol.specs.Banks.{Banked}
use Rattle.protocol.specs.Pieces.{joined}
use Rattle.protocol.specs.Layout.{current, entry_bytes, bytes_of, list_bytes}
use Rattle.protocol.proofs.Codec.{length_entry}
use Rattle.laws.proofs.Every.{either}
use Rattle.read.specs.Parts.{room_of, kept, kept_all}

-- The buffer keeps its length.
length_kept : (out : List ℕ) (n : ℕ) (bytes : List ℕ) → length (kept out n bytes) ≡ length out
unfolding kept
length_kept out n bytes =
    either (λ l. length l ≡ length out) (ltb n (room_of out)) {y = out} (length-sets out (entry_bytes current * n) bytes) refl

pub length_all : (out : List ℕ) (n : ℕ) (es : List Banked) → length (kept_all out n es) ≡ length out
unfolding kept_all
length_all out n [] = refl
length_all out n (e ∷ es) = length_all (kept out n (bytes_of current e)) (n + 1) es ∙ length_kept out n (bytes_of current e)

-- Bytes laid behind others.
laid_more : (front bytes out : List ℕ) (at : ℕ) → length front ≡ at → at + length bytes ≤ length out
    → sets (front ++ drop (length front) out) at bytes ≡ (front ++ bytes) ++ drop (length (front ++ bytes)) out
laid_more front bytes out at e h =
    let rest : List ℕ = drop (length front) out in
    let fits : at + length bytes ≤ length (front ++ rest) =
    omega (arith, length-append front rest, length-drop (length front) out) in
    rw (
      sets-eq bytes (front ++ rest) at fits,
      take_at front rest at e,
      ← e,
      drop-append-add front rest (length bytes),
      drop-drop (length bytes) (length front) out,
      length-append,
      append_assoc,
    )

-- With room for all, they stand one after the other, and no other byte has changed.
kept_behind : (es : List Banked) (n : ℕ) (front out : List ℕ) → length front ≡ entry_bytes current * n → n + length es ≤ room_of out
    → kept_all (front ++ drop (length front) out) n es
    ≡ (front ++ list_bytes current es) ++ drop (length (front ++ list_bytes current es)) out
unfolding kept_all kept list_bytes joined
kept_behind [] n front out e h = rw append-nil
kept_behind (d ∷ es) n front out e h =
    let bytes : List ℕ = bytes_of current d in
    let long : length bytes ≡ entry_bytes current = length_entry current d in
    let same : length (front ++ drop (length front) out) ≡ length out =
    omega (arith, length-append front (drop (length front) out), length-drop (length front) out) in
    rw (same, lt-ltb n (room_of out) (omega arith), laid_more front bytes out (entry_bytes current * n) e (omega arith))
    (kept_behind es (n + 1) (front ++ bytes) out (omega (arith, length-append front bytes)) (omega arith)
    ∙ ap (λ (l : List ℕ). l ++ drop (length l) out) (append_assoc front bytes (list_bytes current es)))

pub kept_whole : (es : List Banked) (out : List ℕ) → length es ≤ room_of out
    → kept_all out 0 es ≡ list_bytes current es ++ drop (length (list_bytes current es)) out
kept_whole es out h = kept_behind es 0 [] out refl (omega arith)

-- Entries behind others.
pub kept_append : (es others : List Banked) (out : List ℕ) (n : ℕ) → kept_all out n (es ++ others) ≡ kept_all (kept_all out n es) (n + length es) others
unfolding kept_all
kept_append [] others out n = rw add-zero
kept_append (e ∷ es) others out n =
    kept_append es others (kept out n (bytes_of current e)) (n + 1)
    ∙ ap (λ (m : ℕ). kept_all (kept_all (kept out n (bytes_of current e)) (n + 1) es) m others) (omega arith)
