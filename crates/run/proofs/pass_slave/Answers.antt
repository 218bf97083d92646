-- `run::pass_slave` meets its contract. Assumes nothing.
use mathlib.Core.Option.{Option}
use mathlib.Core.Path.{◌≡◌, sym, ap, ◌∙◌}
use Prim.Native.Nat.{ℕ, ◌<◌}
use native.Mathlib.Omega.{arith}
use lib.ListN.{length, replicate}
use Rattle.protocol.specs.Memory.{uncounted}
use Rattle.slave.proofs.Silence.{passes_on}
use Rattle.slave.specs.Code.{option_of, state_of, address_of}
use Rattle.run.specs.Parts.{memory_by, counts_by, kept, shown_in}
use Rattle.run.proofs.Counts.{none_counted, ran_counted}
use Rattle.run.proofs.Slaves.{own_step, sent_next, after_next, passed}
use Rattle.run.proofs.pass_slave.Goals as goal
use Rattle.run.proofs.pass_slave.Goals.{then-silent, else-silent}

pub loop-i-init : goal.loop-i-init
loop-i-init c =
    let zeros : c.fill.new.self ≡ uncounted = c.fill.ensures.after (λ y h. h) ∙ ap (λ (n : ℕ). replicate n 0) c.requires.2 in
    record {
      few = rw zeros none_counted;
      sent = rw (zeros, c.new-slave.ensures);
      left = rw (zeros, c.new-slave.ensures);
    }

pub found-place-requires : goal.found-place-requires
found-place-requires c =
    let l = c.loop-i in
    (l.auto.registers ∙ c.requires.0, c.address.ensures.1)

pub count-requires : goal.count-requires
count-requires c =
    let l = c.loop-i in
    (l.auto.counts ∙ c.fill.ensures.len ∙ c.requires.2, λ code. omega (arith, l.invariant.few code, c.requires.4))

pub loop-i-preserved : goal.loop-i-preserved
loop-i-preserved c =
    let l = c.loop-i in
    let a = c.args in
    let small : l.i < length a.cdm.now = omega arith in
    let room : l.i < length l.cds = omega (arith, l.auto.cds, c.requires.3) in
    elim c.if-silent.branch [
      | then-silent w ↦
          let step = passes_on (memory_by a.banks l.registers a.rights.now a.wait l.counts) (state_of l.slave) _ _ (sym c.silent.ensures ∙ w.if-silent.true) in
          record {
            few = rw w.counts-is (λ code. omega (arith, l.invariant.few code));
            sent = rw (w.registers-is, w.counts-is, w.cds-is, w.slave-is, w.heard-slave.ensures)
                (sym (sent_next _ _ a.cdm.now l.cds l.i small room step) ∙ l.invariant.sent);
            left = rw (w.registers-is, w.counts-is, w.cds-is, w.slave-is, w.heard-slave.ensures)
                (sym (after_next _ _ a.cdm.now l.cds l.i small room step) ∙ l.invariant.left);
          }
      | else-silent w ↦
          let turn = w.step in
          let reply = turn.result.1 in
          let p : Option ℕ = option_of w.found-place.result in
          let here : p ≡ shown_in a.banks l.registers (address_of l.slave)
          = w.found-place.ensures ∙ ap (shown_in a.banks l.registers) w.address.ensures.0 in
          let step = own_step a.banks l.registers a.rights.now a.wait l.counts l.slave p _ _ turn.result here
          (rw w.sees.ensures at turn.ensures).over in
          let registers : c.if-silent.registers ≡ kept l.registers p reply.stored = w.registers-is ∙ w.keep.ensures in
          let counts : c.if-silent.counts ≡ counts_by reply.ran l.counts = w.counts-is ∙ w.count.ensures in
          record {
            few = rw counts (ran_counted l.i reply.ran l.counts l.invariant.few);
            sent = rw (registers, counts, w.cds-is, w.slave-is) (sym (sent_next _ _ a.cdm.now l.cds l.i small room step) ∙ l.invariant.sent);
            left = rw (registers, counts, w.cds-is, w.slave-is) (sym (after_next _ _ a.cdm.now l.cds l.i small room step) ∙ l.invariant.left);
          }
    ]

pub returns : goal.returns
returns c =
    let l = c.loop-i in
    passed _ _ _ _ c.args.cdm.now _ _ _ _ l.slave l.i (omega arith) (omega (arith, l.auto.cds, c.requires.3)) l.invariant.sent l.invariant.left
