-- `read_all::Recording::opened` meets its contract: what is let through of the stretch is so of its parts. Assumes nothing.
use mathlib.Core.Path.{refl}
use Rattle.read_all.specs.ReadAll.{list_for}
use Rattle.read_all.proofs.Recording.opened.Goals as goal

pub invariant_of-result : goal.invariant_of-result
invariant_of-result c = record { rows = rw (c.stretch.ensures.0, c.stretch.ensures.1) c.requires.1 }

pub returns : goal.returns
unfolding list_for
returns c = rw (c.stretch.ensures.0, c.stretch.ensures.1) refl
