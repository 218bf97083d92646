-- What every function that prints promises.
use Rattle.std.specs.Prelude.{◌≡◌, List, ℕ, ◌+◌, length}
use Rattle.std.proofs.lemmas.List.Edits.{sets}

-- Bytes laid into a lent buffer at a place: the place behind them is returned, and no other byte has changed.
pub record Laid (bytes : List ℕ) (at : ℕ) (lent : List ℕ) (returned : ℕ) (after : List ℕ) : Type 0 where
  pub behind : returned ≡ at + length bytes
  pub laid : after ≡ sets lent at bytes
