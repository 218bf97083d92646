-- `argument::is_help` meets its contract. Assumes nothing.
use mathlib.Core.Path.{◌∙◌}
use Rattle.argument.specs.Argument.{help_option}
use Rattle.argument.proofs.Digits.{same_line}
use Rattle.argument.proofs.is_help.Goals as goal

pub returns : goal.returns
returns c = c.eq.ensures ∙ same_line help_option c.args.argument.now
