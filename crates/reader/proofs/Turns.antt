-- A step by its parts: where a column means nothing, and what the phase of a frame makes of it. Assumes nothing.
use mathlib.Core.Path.{◌≡◌, refl, ap}
use mathlib.Core.Bool.{Bool}
use Prim.Native.Nat.{ℕ, suc}
use Rattle.std.specs.Prelude.{Option, None}
use Rattle.protocol.specs.Rest.{frame, still}
use Rattle.protocol.specs.Entries.{Place, onward}
use Rattle.protocol.specs.Reader as protocol
use Rattle.protocol.specs.Reader.{Look, begun, look, stepped}
use Rattle.machine.specs.Zeros.{judged_at}
use Rattle.reader.specs.Code.{state_of, place_of, says_of, moved, after}
use Rattle.reader.specs.declared.Event.{Event}
use Rattle.reader.specs.declared.Reader.{Reader}

module _ (r r' : Reader) (m x : Bool) (column : ℕ) where
  -- A column that means nothing to a reader.
  pub quiet : judged_at begun (state_of r) m ≡ still (state_of r')
      → place_of r' (suc column) ≡ onward (state_of r') (place_of r column)
      → after column (record { next = r'; event = None }) ≡ moved (stepped (judged_at begun (state_of r) m) m x) (place_of r column)
  unfolding after moved
  quiet law place = rw (law, place) refl

  -- In a frame, from what the phase sees: its S stays.
  pub looked : {z : ℕ} {p p' : protocol.Phase} (e : Option Event) → state_of r ≡ frame z p → state_of r' ≡ frame z p' → r'.start ≡ r.start
      → record { next = p'; says = says_of e } ≡ look p m x
      → after column (record { next = r'; event = e }) ≡ moved (stepped (judged_at begun (state_of r) m) m x) (place_of r column)
  unfolding after moved
  looked {z} e from to same law =
      let place : Place = record { column = suc column; start = r.start } in
      rw (from, to, same) (ap (λ (l : Look). record { state = frame z l.next; place = place; says = l.says }) law)
