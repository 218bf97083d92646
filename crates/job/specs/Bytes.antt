-- What the bytes of lent buffers are tested for, whatever the job.
use Rattle.std.specs.Prelude.{Bool, true, ◌&&◌, List, [], ◌∷◌, ℕ, leb}

-- Refusals 4 and 7 say how high a lent byte may be.
unfoldable pub none_above : (limit : ℕ) → List ℕ → Bool
none_above limit [] = true
none_above limit (b ∷ bs) = leb b limit && none_above limit bs

-- Refusal 7: "a row byte that is not 0 or 1".
unfoldable pub are_bits : List ℕ → Bool
are_bits row = none_above 1 row
