-- `read_all::Recording::own_refusal` meets its contract: clear further than the stretch goes, or judged exactly. Assumes nothing.
use mathlib.Core.Path.{sym, ◌∙◌}
use Rattle.read_all.proofs.Wider.{own_given, said_right, clear_wider}
use Rattle.read_all.proofs.Recording.own_refusal.Goals as goal

pub returns-then-is_ok : goal.returns-then-is_ok
returns-then-is_ok c =
    clear_wider c.args.self.cdm.now c.args.self.cds.now c.args.job c.args.self.even c.requires c.widened-wide.result
    c.widened-wide.ensures.0 c.widened-wide.ensures.1 (sym c.rows_refusal.ensures ∙ said_right _ c.if-is_ok.ensures.value) c.if-job.true

pub returns : goal.returns
returns c = own_given _ _ c.args.job _ c.stretch-part.ensures.0 c.stretch-part.ensures.1 c.rows_refusal-2.ensures
