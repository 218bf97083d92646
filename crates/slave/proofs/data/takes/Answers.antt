-- `slave::data::takes` meets its contract, a law for each result. Assumes nothing.
use Rattle.slave.proofs.Accesses.{takes_on, takes_last}
use Rattle.slave.proofs.Turns.{quiet}
use Rattle.slave.proofs.data.takes.Goals as goal

pub returns-then-left-gt0 : goal.returns-then-left-gt0
returns-then-left-gt0 c =
    let b = c.args.byte in
    quiet c.said.ensures (λ k s. takes_on k b.address _ _ _ _ b.left c.if-left-gt0.true c.pushed-word.ensures.0)

pub returns : goal.returns
returns c =
    let b = c.args.byte in
    record {
      over = λ k s.
          rw (c.passed.ensures, c.then_some.ensures)
          (takes_last k b.address _ _ _ _ b.left c.if-left-gt0.false c.pushed-word.ensures.0 c.byte_fits-good.ensures);
      unstored = λ none. absurd (cc);
    }
