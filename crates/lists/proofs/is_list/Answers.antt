-- `lists::is_list` meets its contract: whole pieces, and a kind at the head of each. Assumes nothing.
use Rattle.std.proofs.Common.{◌≡◌, true, false, rules, refl, arith, ne_eqb, get_or}
use borrow.Author.Tests.{tests}
use Rattle.std.proofs.lemmas.Iterator.{cases_from_all}
use Rattle.protocol.specs.Pieces.{is_whole}
use Rattle.protocol.specs.Layout.{is_list}
use Rattle.kinds.specs.Kinds.{is_kind}
use Rattle.lists.proofs.Walk.{chunks_yield, kinds_decide}
use Rattle.lists.proofs.is_list.Goals as goal

pub returns-then-list-eq0 : goal.returns-then-list-eq0
unfolding is_list is_whole
returns-then-list-eq0 c =
    let all = cases_from_all _ _ _ (λ p. is_kind (get_or p 0 0) ≡ true) (λ p. is_kind (get_or p 0 0) ≡ false) c.all.ensures.ran
    (chunks_yield 9 (omega arith) c.args.list.now c.chunks_exact.ensures.rest c.chunks_exact.ensures.size)
    (λ x q k. search (rules, tests)) (λ x q k. search (rules, tests)) in
    rw (c.if-list-eq0.true) (kinds_decide _ _ all)

pub returns-else-list-eq0 : goal.returns-else-list-eq0
unfolding is_list is_whole
returns-else-list-eq0 c = rw (ne_eqb _ _ c.if-list-eq0.false) refl
