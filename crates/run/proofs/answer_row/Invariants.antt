-- The loop's invariant of `run::answer_row`: the slaves that have yet to go over the row make of the bits of now what the whole chain makes
-- of zeros, and of the registers and the counts; their bytes are those from `at` on.
use mathlib.Core.List.{map}
use mathlib.Core.Path.{◌≡◌}
use Prim.Native.Nat.{◌+◌, ◌≤◌}
use lib.ListN.{length, drop}
use Rattle.protocol.specs.Bits.{num, row_of}
use Rattle.protocol.specs.Chain.{answers_from, memories_after}
use Rattle.run.proofs.Rows.{waiting, gathered, tallied}
use Rattle.run.proofs.Turned.{all_sent}
use Rattle.run.specs.Run.{sizes, memories_of, registers_of, counts_of}
use Rattle.run.proofs.answer_row.Given as goal

abbrev pub invariant-loop-i : goal.invariant-loop-i
invariant-loop-i l =
    (l.i ≤ length l.banks) × (length l.registers ≡ length l.initial.registers) × (length l.counts ≡ length l.initial.counts) × (length l.cds ≡ length l.cdm)
    × (l.at + sizes (drop l.i l.banks) ≡ length l.registers) × (map num (row_of l.cds) ≡ l.cds)
    × (all_sent (waiting l.banks l.i l.at l.registers l.rights l.waits) (row_of l.cdm) (row_of l.cds)
    ≡ answers_from (memories_of l.banks l.initial.registers l.rights l.waits) (row_of l.cdm))
    × (gathered l.banks l.i l.at l.registers l.rights l.waits l.cdm l.cds
    ≡ registers_of (memories_after (memories_of l.banks l.initial.registers l.rights l.waits) (row_of l.cdm)))
    × (tallied l.banks l.i l.at l.registers l.rights l.waits l.counts l.cdm l.cds
    ≡ counts_of (memories_after (memories_of l.banks l.initial.registers l.rights l.waits) (row_of l.cdm)))
