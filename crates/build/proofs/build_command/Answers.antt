-- `build::build_command` meets its contract: refused as its request is, or its header's thirty columns and those from its S to EX.
-- Assumes nothing.
use mathlib.Core.Path.{◌∙◌}
use native.Mathlib.Omega.{arith}
use borrow.Author.Rules.{rules}
use Rattle.std.proofs.lemmas.Bool.Decides.{nat_tests}
use Rattle.job.specs.Refusals.{first}
use Rattle.build.specs.Build.{outside, refusals}
use Rattle.build.proofs.Ends.{ends_refused, ends_made}
use Rattle.build.proofs.Rows.{lead_bits, made_command, length_command}
use Rattle.protocol.specs.Header.{command_word}
use Rattle.build.proofs.build_command.Goals as goal

pub returns-then-cmd-gt-LAST_COMMAND : goal.returns-then-cmd-gt-LAST_COMMAND
unfolding outside refusals first
returns-then-cmd-gt-LAST_COMMAND c = rw c.from.ensures (record { ends = ends_refused _ _ _ _ (grind (arith, nat_tests)) })

pub returns-then-out-columns : goal.returns-then-out-columns
unfolding outside refusals first
returns-then-out-columns c =
    let a = c.args in
    let long = length_command a.ids a.cmd a.execute in
    rw c.from-then-out-columns.ensures (record { ends = ends_refused _ _ _ _ (grind (arith, nat_tests)) })

pub returns : goal.returns
unfolding outside refusals first
returns c =
    let put = c.put_bits in
    let start = c.frame_head-start in
    let behind = c.behind_header-columns in
    let a = c.args in
    let long = length_command a.ids a.cmd a.execute in
    record {
      ends = ends_made _ _ _ _ _ (grind (arith, nat_tests)) (omega arith)
          (put.ensures.1 ∙ rw (
            behind.ensures.0,
            c.up_to_execute.ensures,
            start.ensures.0,
            lead_bits (command_word a.ids a.cmd) (search rules),
            ← made_command a.ids a.cmd a.execute,
          ));
    }
