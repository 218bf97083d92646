-- `read_all::read_all` meets its contract: it ends where a pass is stopped, or behind the last. Assumes nothing.
use mathlib.Core.Path.{sym}
use Rattle.std.proofs.lemmas.Result.{err_from_is_err_and}
use Rattle.read_all.proofs.Ends.{uneven_ends, outside_ends, own_ends, crowded_ends, one_each, same_rows, good, room, made_ends}
use Rattle.read_all.proofs.read_all.Goals as goal

pub returns-in_err-wrong_lengths : goal.returns-in_err-wrong_lengths
returns-in_err-wrong_lengths c =
    let told = err_from_is_err_and c.from_residual.result c.from_residual.ensures.1 in
    rw (told.1, told.2) (uneven_ends _ _ _ _ _ _ c.in_err-wrong_lengths.ensures)

pub returns-in_err-place_all : goal.returns-in_err-place_all
returns-in_err-place_all c =
    let told = err_from_is_err_and c.from_residual-in_err-place_all.result c.from_residual-in_err-place_all.ensures.1 in
    rw (told.1, told.2) (outside_ends _ _ _ _ _ _ c.in_ok-wrong_lengths.ensures c.in_err-place_all.ensures)

pub judge_all-requires : goal.judge_all-requires
judge_all-requires c = record { inside = sym c.in_ok-place_all.ensures }

pub invariant_of-recording : goal.invariant_of-recording
invariant_of-recording c = record { even = same_rows _ _ _ c.args.out.now _ c.in_ok-wrong_lengths.ensures }

pub returns-in_err-judge_all : goal.returns-in_err-judge_all
returns-in_err-judge_all c =
    let told = err_from_is_err_and c.from_residual-in_err-judge_all.result c.from_residual-in_err-judge_all.ensures.1 in
    rw (told.1, told.2) (own_ends _ _ _ _ _ _ c.in_ok-wrong_lengths.ensures c.in_ok-place_all.ensures c.in_err-judge_all.ensures)

pub count_all-requires : goal.count_all-requires
count_all-requires c =
    good _ _ _ c.args.out.now _ c.in_ok-wrong_lengths.ensures c.in_ok-place_all.ensures c.in_ok-judge_all.ensures

pub returns-in_err-count_all : goal.returns-in_err-count_all
returns-in_err-count_all c =
    let told = err_from_is_err_and c.from_residual-in_err-count_all.result c.from_residual-in_err-count_all.ensures.1 in
    rw (told.1, told.2)
    (crowded_ends _ _ _ _ _ _ c.in_ok-wrong_lengths.ensures c.in_ok-place_all.ensures c.in_ok-judge_all.ensures c.in_err-count_all.ensures)

pub write_all-requires : goal.write_all-requires
write_all-requires c =
    let even = c.in_ok-wrong_lengths.ensures in (
      good _ _ _ c.args.out.now _ even c.in_ok-place_all.ensures c.in_ok-judge_all.ensures,
      room _ _ _ _ c.args.counts.now even c.in_ok-count_all.ensures,
      one_each _ _ _ c.args.out.now _ even,
    )

pub returns : goal.returns
returns c =
    let written = c.write_all.ensures in
    made_ends _ _ _ _ _ c.in_ok-wrong_lengths.ensures c.in_ok-place_all.ensures c.in_ok-judge_all.ensures c.in_ok-count_all.ensures _ _ _
    written.0 written.1 written.2
