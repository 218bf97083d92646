-- A command's columns as the code has them, counted from its S. Nothing here is needed to read what run or read promises.
use Rattle.std.specs.Prelude.{Bool, not, ◌&&◌, ℕ, eqb}

-- A 0 at S.
unfoldable pub stops_at : (column : ℕ) → (m : Bool) → Bool
stops_at column m = not m && eqb column 0
