-- What may be printed of a buffer, and what is printed where the bytes of the input are known.
use Rattle.std.specs.Prelude.{◌≡◌, ◌≤◌, Option, IfSome, List, ℕ, length, take}
use Rattle.report.specs.Report.{report_text}

-- So many bytes stand at its start: they are within it, and there are so many of them.
abbrev pub IsPrefixLen : ℕ → List ℕ → Type 0
IsPrefixLen n xs = (n ≤ length xs) × (n ≡ length (take n xs))

-- They are the report on the input's text, with an opening column.
abbrev pub Reports : (known : Option (List ℕ)) → (opening : ℕ) → ℕ → List ℕ → Type 0
Reports known opening n xs = IfSome known (λ text. take n xs ≡ report_text text opening)
