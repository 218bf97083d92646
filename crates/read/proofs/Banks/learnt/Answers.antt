-- `read::Banks::learnt` meets its contract: past the last ID nothing is put. Assumes nothing.
use mathlib.Core.Path.{◌≡◌, sym}
use borrow.Author.Rules.{rules}
use borrow.Author.Tests.{eq-eqb, ne_eqb}
use lib.Seq.{set_out}
use Rattle.kinds.specs.declared.Kind.TheVariants.{Written}
use Rattle.protocol.specs.Banks.{learnt}
use Rattle.read.proofs.Written.{not_written}
use Rattle.read.proofs.Banks.learnt.Goals as goal
use Rattle.read.proofs.Banks.learnt.Goals.{else-eq-via-then-eq+then-event-eq-BANK_REGISTER+else-id-lt-IDS, else-eq-via-then-eq+else-event-eq-BANK_REGISTER, else-eq-via-else-eq}

pub returns-then-id-lt-IDS : goal.returns-then-id-lt-IDS
unfolding learnt
returns-then-id-lt-IDS c =
    let kind : c.args.event.kind ≡ Written = search rules in
    rw (kind, c.from-id.ensures, eq-eqb _ _ c.if-event-eq-BANK_REGISTER.true)

pub returns-else-eq : goal.returns-else-eq
unfolding learnt
returns-else-eq c =
    elim c.else-eq.branch [
      | else-eq-via-then-eq+then-event-eq-BANK_REGISTER+else-id-lt-IDS w ↦
          let kind : c.args.event.kind ≡ Written = search rules in
          rw (kind, eq-eqb _ _ w.if-event-eq-BANK_REGISTER.true) (sym (set_out _ _ _ (search rules)))
      | else-eq-via-then-eq+else-event-eq-BANK_REGISTER w ↦
          let kind : c.args.event.kind ≡ Written = search rules in
          rw (kind, ne_eqb _ _ w.if-event-eq-BANK_REGISTER.false)
      | else-eq-via-else-eq w ↦ rw (not_written c.args.event.kind (search rules))
    ]
