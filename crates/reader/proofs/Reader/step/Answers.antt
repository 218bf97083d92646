-- `reader::Reader::step` meets its contract: by whether the column is the fourteenth zero. Assumes nothing.
use Rattle.protocol.specs.Reader.{begun, step}
use Rattle.machine.proofs.Zeros.{judge_on, judge_out, framed_timed}
use Rattle.reader.specs.Code.{form_by, state_of}
use Rattle.reader.proofs.Reader.step.Goals as goal

pub returns-then-counted-lt-REST : goal.returns-then-counted-lt-REST
unfolding step state_of
returns-then-counted-lt-REST c =
    let s = c.args.self in
    let form = form_by s.form s.frame in
    rw (judge_on begun s.zeros form c.args.m c.counted.ensures c.if-counted-lt-REST.true, framed_timed s.zeros form)
    (rw (framed_timed c.counted.result form) at c.goes_on.ensures)

pub returns-else-counted-lt-REST : goal.returns-else-counted-lt-REST
unfolding step state_of
returns-else-counted-lt-REST c =
    let s = c.args.self in
    let form = form_by s.form s.frame in
    rw (judge_out begun s.zeros form c.args.m c.counted.ensures c.if-counted-lt-REST.false, framed_timed s.zeros form)
    (rw (framed_timed c.counted.result form) at (c.ended.ensures c.args.column c.args.m c.args.x))
