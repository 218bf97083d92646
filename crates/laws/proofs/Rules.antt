-- The tests of a branch, as rules: a definition that goes by `cond` on a test computes once the branch's fact is put in. Assumes nothing.
use borrow.Author.Tests.{lt-ltb, le-ltb, eq-eqb, ne_eqb}

pub ruleset cases = (lt-ltb, le-ltb, eq-eqb, ne_eqb)
