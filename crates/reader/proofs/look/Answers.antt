-- `reader::look` meets its contract: what a phase does not judge may be any bit. Assumes nothing.
use Rattle.reader.proofs.look.Goals as goal

pub returns-in-Head : goal.returns-in-Head
returns-in-Head c = rw c.in-Head.is (c.head.ensures _)

pub returns-in-AskP : goal.returns-in-AskP
returns-in-AskP c = rw c.in-AskP.is (c.ask_p.ensures _)
