-- A list's lines, and a list's refusal. Assumes nothing.
use mathlib.Core.Path.{◌≡◌, refl, sym}
use mathlib.Core.Bool.{Bool, true, false, not}
use mathlib.Core.List.{List, [], ◌∷◌, ◌++◌}
use mathlib.Core.Option.{none, some}
use Prim.Native.Nat.{ℕ, ◌+◌}
use lib.Dec.{ltb}
use lib.ListN.{length, length-append}
use Rattle.protocol.specs.Banks.{Banked}
use Rattle.protocol.specs.Layout.{current, entries_in, is_list}
use Rattle.protocol.specs.Text.{list_header, entry_line, entry_lines, list_text}
use Rattle.job.specs.Refusals.{number, refusal, alone, when, first}
use Rattle.job.specs.declared.Reason.{Reason}
use Rattle.job.specs.declared.Reason.TheVariants.{NoRoom}
use Rattle.job.proofs.Refusals.{stays}
use Rattle.list_text.specs.Lists.{list_refusals}

-- The line of an entry before those behind it, or none.
module _ {es rest : List Banked} {e : Banked} (q : es ≡ e ∷ rest) where
  pub lines_more : entry_lines es ≡ entry_line e ++ entry_lines rest
  unfolding entry_lines
  lines_more = rw q

  pub lines_length : length (entry_lines es) ≡ length (entry_line e) + length (entry_lines rest)
  lines_length = rw (lines_more, length-append)

pub lines_none : {es : List Banked} → es ≡ [] → entry_lines es ≡ []
unfolding entry_lines
lines_none q = rw q

-- A list's text: the header and the lines.
pub text_length : (es : List Banked) → length (list_text es) ≡ length list_header + length (entry_lines es)
unfolding list_text
text_length es = length-append list_header (entry_lines es)

-- What is not refused as no list is one.
pub one_list : (b : Bool) → none ≡ first (when (not b) 12 ∷ []) → b ≡ true
unfolding first
one_list true q = refl
one_list false q = cc

-- A list's refusal, by whether it is one and whether its text has room.
module _ (list : List ℕ) (room : ℕ) where
  pub list_twelve : (reason : Reason) → some (refusal (number reason) alone) ≡ first (when (not (is_list current list)) 12 ∷ [])
      → first (list_refusals list room) ≡ some (refusal (number reason) alone)
  unfolding list_refusals
  list_twelve reason q = sym (stays (when (not (is_list current list)) 12 ∷ []) _ reason q)

  module _ (q : is_list current list ≡ true) where
    pub list_nine : ltb room (length (list_text (entries_in current list))) ≡ true
        → first (list_refusals list room) ≡ some (refusal (number NoRoom) alone)
    unfolding list_refusals first
    list_nine long = rw (q, long)

    pub list_none : ltb room (length (list_text (entries_in current list))) ≡ false → first (list_refusals list room) ≡ none
    unfolding list_refusals first
    list_none enough = rw (q, enough)
