-- `run::shown` meets its contract: each result is the definition at the branch's tests. Assumes nothing.
use mathlib.Core.Path.{refl}
use borrow.Author.Tests.{lt-ltb, le-ltb, eq-eqb, ne_eqb}
use Rattle.protocol.specs.Memory.{place_of}
use Rattle.run.proofs.Slaves.{in_bank_held}
use Rattle.run.proofs.shown.Goals as goal
use Rattle.run.proofs.shown.Goals.{else-address-eq-BANK_REGISTER-via-then-address-eq-BANK_REGISTER+else-banks-eq1, else-address-eq-BANK_REGISTER-via-else-address-eq-BANK_REGISTER}

pub returns-then-address-lt-BANK : goal.returns-then-address-lt-BANK
unfolding place_of
returns-then-address-lt-BANK c =
    let a = c.args in rw (c.then_some.ensures, lt-ltb _ _ c.if-address-lt-BANK.true) (in_bank_held a.banks a.chosen a.address)

pub returns-then-banks-eq1 : goal.returns-then-banks-eq1
unfolding place_of
returns-then-banks-eq1 c =
    rw (le-ltb _ _ c.if-address-lt-BANK.false, eq-eqb _ _ c.if-address-eq-BANK_REGISTER.true, eq-eqb _ _ c.if-banks-eq1.true) refl

pub returns-else-address-eq-BANK_REGISTER : goal.returns-else-address-eq-BANK_REGISTER
unfolding place_of
returns-else-address-eq-BANK_REGISTER c =
    rw (le-ltb _ _ c.if-address-lt-BANK.false)
    (elim c.else-address-eq-BANK_REGISTER.branch [
      | else-address-eq-BANK_REGISTER-via-then-address-eq-BANK_REGISTER+else-banks-eq1 w ↦
          rw (eq-eqb _ _ w.if-address-eq-BANK_REGISTER.true, ne_eqb _ _ w.if-banks-eq1.false) refl
      | else-address-eq-BANK_REGISTER-via-else-address-eq-BANK_REGISTER w ↦ rw (ne_eqb _ _ w.if-address-eq-BANK_REGISTER.false) refl
    ])
