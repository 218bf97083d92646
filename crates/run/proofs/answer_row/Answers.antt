-- `run::answer_row` meets its contract. Assumes nothing.
use mathlib.Core.Path.{◌≡◌, refl, sym, ap, ◌∙◌}
use Prim.Native.Nat.{ℕ, ◌+◌}
use native.Mathlib.Omega.{arith}
use borrow.Author.Rules.{rules}
use lib.ListN.{length, length-replicate, length-take, length-drop, replicate}
use Rattle.run.proofs.Rows.{Gone, stored_long, counted_long, bits_next, sent_next, gathered_next, tallied_next}
use Rattle.run.proofs.Rows.{sent_first, gathered_first, tallied_first, bits_first, rowed}
use Rattle.run.proofs.Tables.{sizes_next, sizes_none, room}
use Rattle.run.proofs.answer_row.Goals as goal

pub loop-i-init : goal.loop-i-init
loop-i-init c =
    let a = c.args in
    let cleared = c.fill in
    let zeros : cleared.new.self ≡ replicate (length a.cdm.now) 0
    = cleared.ensures.after (λ y h. h) ∙ ap (λ (n : ℕ). replicate n 0) c.requires.1 in (
      search rules,
      refl,
      refl,
      rw zeros (length-replicate (length a.cdm.now) 0),
      omega (arith, c.requires.0.all_registers),
      rw zeros (bits_first (length a.cdm.now)),
      rw zeros (sent_first a.banks.now a.registers.now a.rights.now a.waits.now a.cdm.now),
      rw zeros (gathered_first a.banks.now a.registers.now a.rights.now a.waits.now a.cdm.now),
      rw zeros (tallied_first a.banks.now a.registers.now a.rights.now a.waits.now a.cdm.now a.counts.now),
    )

pub overflow_add-end : goal.overflow_add-end
overflow_add-end c =
    let l = c.loop-i in
    let fits = room c.args.banks.now l.i l.at _ _ c.loop-i-test.true c.size_of.ensures.0 l.invariant.4 in
    search (fits, rules)

pub slice_bounds-pass_slave-end : goal.slice_bounds-pass_slave-end
slice_bounds-pass_slave-end c =
    let size = c.size_of in
    let l = c.loop-i in
    let fits = room c.args.banks.now l.i l.at _ _ c.loop-i-test.true size.ensures.0 l.invariant.4 in
    omega (arith, fits, l.invariant.1, c.requires.0.all_registers, c.requires.0.all_rights)

pub slice_bounds-pass_slave-end-in-loop-i : goal.slice_bounds-pass_slave-end-in-loop-i
slice_bounds-pass_slave-end-in-loop-i c =
    let size = c.size_of in
    let l = c.loop-i in
    room c.args.banks.now l.i l.at _ _ c.loop-i-test.true size.ensures.0 l.invariant.4

pub slice_bounds-pass_slave-end-in-loop-i-2 : goal.slice_bounds-pass_slave-end-in-loop-i-2
slice_bounds-pass_slave-end-in-loop-i-2 c =
    omega (arith, c.loop-i-test.true, c.loop-i.invariant.2, c.requires.0.all_counts)

pub pass_slave-requires : goal.pass_slave-requires
pass_slave-requires c =
    let size = c.size_of in
    let l = c.loop-i in
    let small = c.loop-i-test.true in
    let fits = room c.args.banks.now l.i l.at _ _ small size.ensures.0 l.invariant.4 in (
      rw (length-take, length-drop) (omega (arith, fits, size.ensures.0)),
      rw (length-take, length-drop)
          (omega (arith, fits, size.ensures.0, l.invariant.1, c.requires.0.all_registers, c.requires.0.all_rights)),
      rw (length-take, length-drop) (omega (arith, small, l.invariant.2, c.requires.0.all_counts)),
      l.invariant.3,
      c.requires.2,
    )

pub loop-i-preserved : goal.loop-i-preserved
loop-i-preserved c =
    let pass = c.pass_slave in
    let size = c.size_of in
    let l = c.loop-i in
    let a = c.args in
    let small = c.loop-i-test.true in
    let gone : Gone a.banks.now l.i l.at (l.at + size.result) _ l.registers a.rights.now a.waits.now l.counts
    a.cdm.now l.cds pass.new.registers pass.new.counts pass.new.cds
    = record {
      banks = refl;
      stop = ap (λ (n : ℕ). l.at + n) size.ensures.0;
      small = small;
      long = room a.banks.now l.i l.at _ _ small size.ensures.0 l.invariant.4;
      same = pass.auto.registers;
      full = l.invariant.2 ∙ c.requires.0.all_counts;
      four = pass.auto.counts;
      passed = pass.ensures;
    } in (
      search rules,
      stored_long gone ∙ l.invariant.1,
      counted_long gone ∙ l.invariant.2,
      pass.auto.cds ∙ l.invariant.3,
      omega (arith, stored_long gone, size.ensures.0, sizes_next a.banks.now l.i small, l.invariant.4),
      bits_next gone,
      sym (sent_next gone) ∙ l.invariant.6,
      sym (gathered_next gone) ∙ l.invariant.7,
      sym (tallied_next gone) ∙ l.invariant.8,
    )

pub shape_of-registers : goal.shape_of-registers
shape_of-registers c = c.loop-i.invariant.1

pub shape_of-counts : goal.shape_of-counts
shape_of-counts c = c.loop-i.invariant.2

pub shape_of-cds : goal.shape_of-cds
shape_of-cds c =
    c.loop-i.invariant.3 ∙ sym c.requires.1

pub returns : goal.returns
returns c =
    let l = c.loop-i in
    let table = c.args.banks.now in
    rowed table _ _ _ _ _ _ _ l.i l.at c.loop-i-test.false
    (omega (arith, l.invariant.4, sizes_none table l.i c.loop-i-test.false)) (l.invariant.2 ∙ c.requires.0.all_counts) l.invariant.5 l.invariant.6
    l.invariant.7 l.invariant.8
