-- `slave::data::goes_on` meets its contract, each test of it in turn. Assumes nothing.
use mathlib.Core.Path.{refl, sym, ◌∙◌}
use Rattle.slave.proofs.Accesses.{goes_on_is}
use Rattle.slave.proofs.data.goes_on.Goals as goal
use Rattle.slave.proofs.data.goes_on.Goals.{then-good, else-good, then-passed-ne0, else-passed-ne0}

pub returns-then-allowed : goal.returns-then-allowed
returns-then-allowed c =
    elim c.if-passed-ne0.branch [
      | then-passed-ne0 w ↦
          elim c.if-good.branch [
            | then-good v ↦
                goes_on_is _ _ _ v.if-good.true (sym v.value-is ∙ w.if-passed-ne0.true)
                (sym w.allowed.ensures ∙ sym w.value-is ∙ c.if-allowed.true)
            | else-good v ↦ absurd (cc)
          ]
      | else-passed-ne0 w ↦ absurd (cc)
    ]

pub returns-else-allowed : goal.returns-else-allowed
returns-else-allowed c =
    c.if-allowed.false
    ∙ elim c.if-passed-ne0.branch [
      | then-passed-ne0 w ↦
          elim c.if-good.branch [
            | then-good v ↦
                goes_on_is _ _ _ v.if-good.true (sym v.value-is ∙ w.if-passed-ne0.true)
                (sym w.allowed.ensures ∙ sym w.value-is ∙ c.if-allowed.false)
            | else-good v ↦ absurd (cc)
          ]
      | else-passed-ne0 w ↦
          elim c.if-good.branch [
            | then-good v ↦ goes_on_is _ _ _ v.if-good.true (sym v.value-is ∙ w.if-passed-ne0.false) refl
            | else-good v ↦ goes_on_is _ _ _ v.if-good.false refl refl
          ]
    ]
