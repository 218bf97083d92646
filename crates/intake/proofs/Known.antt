-- An input whose bytes are known, read piece by piece: what was read keeps its form up to the last piece, which then decides what is printed
-- of all of it. Assumes nothing.
use mathlib.Core.Path.{◌≡◌, refl, sym, ap, ◌∙◌}
use mathlib.Core.List.{List, [], ◌++◌, append-nil, append_assoc}
use Rattle.std.specs.Prelude.{Option, None, Some, Ok}
use Rattle.std.specs.Io.KnownBytes.{Consumes, IsAtEnd}
use Prim.Native.Nat.{ℕ, ◌+◌, ◌≤◌}
use lib.ListN.{length, length-append}
use Rattle.protocol.specs.Fault.{stop, fault_at}
use Rattle.print.proofs.Ends.{was_printed}
use Rattle.report.specs.Report.{report_text, long_report, Whole}
use Rattle.report.proofs.Pieces.{piece_good, piece_ends}
use Rattle.intake.specs.Counted.{Reports}

-- All bytes of an input and those that it has left, behind so many that keep their form and the piece that was read last.
abbrev pub Walked : (all left : Option (List ℕ)) → (place : ℕ) → (piece : List ℕ) → Type 0
Walked None left place piece = Unit {0}
Walked (Some xs) None place piece = ⊥
Walked (Some xs) (Some rest) place piece =
    (before : List ℕ) × (xs ≡ before ++ (piece ++ rest)) × (length before ≡ place) × (stop 0 before ≡ place)

pub walked_first : (all left : Option (List ℕ)) (piece : List ℕ) → Consumes all left piece → Walked all left 0 piece
unfolding stop
walked_first None left piece read = tt
walked_first (Some xs) None piece read = absurd read
walked_first (Some xs) (Some rest) piece read = ([], read, refl, refl)

-- A piece that keeps its form is behind the next one.
pub walked_on : (all left next : Option (List ℕ)) (place : ℕ) (piece more : List ℕ) → Walked all left place piece
    → stop place piece ≡ place + length piece → Consumes left next more → Walked all next (place + length piece) more
walked_on None left next place piece more w good read = tt
walked_on (Some xs) None next place piece more w good read = absurd w
walked_on (Some xs) (Some rest) None place piece more w good read = absurd read
walked_on (Some xs) (Some rest) (Some last) place piece more (before, all, long, form) good read =
    let here : stop 0 before ≡ length before = form ∙ sym long in
    let there : stop (length before) piece ≡ length before + length piece = rw long good in (
      before ++ piece,
      all ∙ ap (λ (l : List ℕ). before ++ (piece ++ l)) read ∙ sym (append_assoc before piece (more ++ last)),
      length-append before piece ∙ rw long refl,
      piece_good before piece here there ∙ length-append before piece ∙ rw long refl,
    )

module _ (k : ℕ) {out : List ℕ} {n : ℕ} {after : List ℕ} where
  -- A piece that is all of the input is reported on as a text ..
  pub reports_whole : (all left : Option (List ℕ)) (piece : List ℕ) → Consumes all left piece → IsAtEnd left
      → Whole (report_text piece k) out (Ok n) after → Reports all k n after
  reports_whole None left piece read end printed = tt
  reports_whole (Some xs) None piece read end printed = absurd read
  reports_whole (Some xs) (Some rest) piece read end printed =
      let whole : xs ≡ piece = read ∙ rw (end, append-nil) refl in
      rw whole (was_printed printed).2

  -- .. and an input that is longer than any admitted text by where it stops.
  pub reports_long : (all left : Option (List ℕ)) (place : ℕ) (piece : List ℕ) → Walked all left place piece
      → 16396 ≤ place + length piece → (place + length piece ≤ stop place piece → IsAtEnd left)
      → Whole (long_report (fault_at (stop place piece) (place + length piece))) out (Ok n) after → Reports all k n after
  reports_long None left place piece w long end printed = tt
  reports_long (Some xs) None place piece w long end printed = absurd w
  reports_long (Some xs) (Some rest) place piece (before, all, here, form) long end printed =
      let ends = piece_ends before piece (form ∙ sym here) k (rw here long) rest (rw here end) in
      rw all ((was_printed printed).2 ∙ (rw here at ends))
