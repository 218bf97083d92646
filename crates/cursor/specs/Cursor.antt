-- The code's forms and reasons in the words of protocol.
use Rattle.std.specs.Prelude.{ℕ}
use Rattle.std.specs.Prelude as Code
use Rattle.std.proofs.Math.Option.{Option, none, some}
use Rattle.protocol.specs.Fault.{line_at, byte_at, Fault}
use Rattle.protocol.specs.Text.{Form, exactly, bit, a_tab, a_feed}
use Rattle.job.specs.declared.Reason.{Reason}
use Rattle.job.specs.Refusals.{number}
use Rattle.cursor.specs.declared.Form as Code_form
use Rattle.cursor.specs.declared.Form.TheVariants.{Exactly, Bit, Tab, Feed}

-- "a line, counted from 1, and a byte of that line, counted from 0" beside the reason's number; nothing where nothing is wrong.
abbrev pub fault_of : (place : ℕ) → Code.Option Reason → Option Fault
fault_of place Code.None = none
fault_of place (Code.Some reason) = some (record { number = number reason; line = line_at place; byte = byte_at place })

-- "header `cdm` TAB `cds` LF, then digit TAB digit LF": what a byte has to be.
abbrev pub form_of : Code_form.Form → Form
form_of (Exactly x) = exactly x
form_of Bit = bit
form_of Tab = a_tab
form_of Feed = a_feed
