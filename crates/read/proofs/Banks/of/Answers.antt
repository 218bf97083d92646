-- `read::Banks::of` meets its contract: past the last ID nothing is shown. Assumes nothing.
use mathlib.Core.Path.{◌≡◌, sym, ◌∙◌}
use mathlib.Core.Bool.{true, false}
use Rattle.std.proofs.Common.{arith}
use Rattle.std.proofs.lemmas.Grind.{common_steps}
use Rattle.std.proofs.lemmas.Option.{gets, unwrap_or-slice_get}
use Rattle.protocol.specs.Banks.{names_bank, bank_of}
use Rattle.reader.specs.Code.{event_of}
use Rattle.read.proofs.Banks.of.Goals as goal

pub returns-then-has_bank : goal.returns-then-has_bank
unfolding bank_of
returns-then-has_bank c =
    let named : names_bank (event_of c.args.event) ≡ true = sym c.has_bank.ensures ∙ c.if-has_bank.true in
    rw named (grind (arith, common_steps, gets, unwrap_or-slice_get))

pub returns-else-has_bank : goal.returns-else-has_bank
unfolding bank_of
returns-else-has_bank c =
    let unnamed : names_bank (event_of c.args.event) ≡ false = sym c.has_bank.ensures ∙ c.if-has_bank.false in
    rw unnamed
