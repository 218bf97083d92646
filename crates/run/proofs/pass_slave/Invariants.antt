-- The loop's invariant of `run::pass_slave`: the bits sent so far and those that are left are all that the slave sends, and no count is
-- above the columns so far.
use mathlib.Core.List.{map, ◌++◌}
use mathlib.Core.Path.{◌≡◌}
use lib.ListN.{take, drop}
use Rattle.protocol.specs.Bits.{num, row_of}
use Rattle.protocol.specs.Slave as protocol
use Rattle.slave.specs.Code.{state_of}
use Rattle.run.specs.Parts.{sent_by, after_by, memory_by, new_by}
use Rattle.run.proofs.Counts.{NoneOver}
use Rattle.run.proofs.pass_slave.Given as goal

abbrev pub invariant-loop-i : goal.invariant-loop-i
invariant-loop-i l =
    record {
      few : NoneOver l.i l.counts;
      sent : take l.i l.cds
          ++ map num
          (sent_by (protocol.slave (memory_by l.banks l.registers l.rights l.wait l.counts) (state_of l.slave)) (row_of (drop l.i l.cdm)) (row_of (drop l.i l.cds)))
          ≡ map num (sent_by (new_by l.banks l.initial.registers l.rights l.wait) (row_of l.cdm) (row_of l.initial.cds));
      left : after_by (protocol.slave (memory_by l.banks l.registers l.rights l.wait l.counts) (state_of l.slave)) (row_of (drop l.i l.cdm)) (row_of (drop l.i l.cds))
          ≡ after_by (new_by l.banks l.initial.registers l.rights l.wait) (row_of l.cdm) (row_of l.initial.cds);
    }
