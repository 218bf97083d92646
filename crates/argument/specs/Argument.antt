-- What an argument on the command line asks of the indexing program.
use Rattle.std.specs.Prelude.{Bool, cond, ◌&&◌, List, [], ◌∷◌, map, ℕ, ◌+◌, ◌-◌, ◌*◌, min, leb, eqb, length, Option, Some, None}
use Rattle.protocol.specs.Limits.{column_limit}
use Rattle.protocol.specs.Entries.{bytes}
use Rattle.protocol.specs.Text.{digit, Form, begins}
use Rattle.argument.specs.declared.Asked.{Asked}
use Rattle.argument.specs.declared.Asked.TheVariants.{Column, Help}

-- Every opening column past the longest row is refused alike, so the first of them stands for all.
abbrev pub farthest : ℕ
farthest = column_limit + 1

-- A decimal digit.
abbrev pub is_digit : ℕ → Bool
is_digit b = leb (digit 0) b && leb b (digit 9)

-- The number n, and the digits of an argument behind it; an argument with any other byte writes no number.
unfoldable pub asked_from : (n : ℕ) → (argument : List ℕ) → Option Asked
asked_from n [] = Some (Column (min n farthest))
asked_from n (b ∷ argument) = cond (is_digit b) (asked_from (10 * n + (b - digit 0)) argument) None

-- The program's one option.
abbrev pub help_option : List ℕ
help_option = bytes "--help"

-- An argument is the option.
abbrev pub is_help : (argument : List ℕ) → Bool
is_help argument = eqb (length argument) (length help_option) && begins (map Form.exactly help_option) argument

-- An argument asks for help, or for an opening column; an empty argument is no number.
unfoldable pub asked_by : (argument : List ℕ) → Option Asked
asked_by argument =
    cond (is_help argument) (Some Help) (cond (eqb (length argument) 0) None (asked_from 0 argument))
