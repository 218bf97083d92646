-- What is promised of the definitions, in the words of paper 01 and of its demand 3, each with the modules that prove it. They speak of
-- chains of any length and rows of any length. Assumes nothing.
use mathlib.Core.Path.{◌≡◌, refl, sym, ap, ◌∙◌}
use mathlib.Core.Bool.{Bool, true, false, false≢true}
use mathlib.Core.List.{List, [], ◌∷◌, ◌++◌, map}
use mathlib.Core.Option.{some}
use Prim.Native.Nat.{ℕ, suc, ◌+◌, ◌^◌, ◌<◌}
use native.Mathlib.Omega.{arith}
use lib.ListN.{length, take, drop, replicate, get_elem?}
use Rattle.protocol.specs.Limits.{rest_zeros, header_columns}
use Rattle.protocol.specs.Rest.{Timed, rest, power_on}
use Rattle.protocol.specs.Division.{data_bits}
use Rattle.protocol.specs.Memory.{Memory}
use Rattle.protocol.specs.Slave.{Slave, byte_s, turn, confirmed, speak}
use Rattle.protocol.specs.Chain.{switched_on, answers_from, memories_after}
use Rattle.protocol.specs.Chain
use Rattle.protocol.specs.Building.{read, write, command, row_for}
use Rattle.protocol.specs.Entries.{Place, opened, Entry}
use Rattle.protocol.specs.Banks.{unknown, banked, bare}
use Rattle.protocol.specs.Reader.{Phase, Column, columns, entries_from, list_from, begun}
use Rattle.protocol.specs.Reader
use Rattle.protocol.specs.Account.{entries_along, account}
use Rattle.protocol.specs.Replay.{replay, executions, Shows, Rightful, BanksStand}
use Rattle.protocol.specs.Understood.{listed, Allowed, lock_shown, command_shown, execution_shown, bytes_shown, standing, closing}
use Rattle.protocol.specs.Late.{Zeros, FirstFourteen, NoFourteen, from_column, Agrees, Started, OpenedAt}
use Rattle.protocol.proofs.Rest.{fourteen}
use Rattle.laws.proofs.Every.{Every}
use Rattle.protocol.proofs.Memories.{Bytes}
use Rattle.protocol.proofs.Banks.{bare_banked, every_banked}
use Rattle.protocol.proofs.Late.{masters, masters_drop, rests, from_fourteen, agrees_at_rest, from_first, none_later, sleeps}
use Rattle.protocol.proofs.Start as start
use Rattle.protocol.proofs.Start.{starts}
use Rattle.protocol.proofs.Opened.{opened_at}
use Rattle.protocol.proofs.Rows.{soon_after, all_soon}
use Rattle.protocol.proofs.Counts.{Uncounted, replayed_table}
use Rattle.protocol.proofs.Whole.{whole}
use Rattle.protocol.proofs.Rightful.{rightful, Paired, banks_stand}
use Rattle.protocol.proofs.Understood.{read_shown, write_shown, command_shown_lem, header_shown_alone}
use Rattle.protocol.proofs.Twins.{Alike, twins, same_answers}
use Rattle.protocol.proofs.Honest.{Sound, fair_along}
use Rattle.protocol.proofs.Waits as waits
use Rattle.protocol.proofs.Waits.{Prompt, Loud}

-- The list that a reader makes of a master row and the chain's answers to it is the chain's own account, banks and all, where registers
-- hold bytes.
pub list_is_account : (ks : List Memory) (row : List Bool) → Bytes ks → list_from 0 (columns row (answers_from ks row)) ≡ account ks row
unfolding list_from account
list_is_account ks row bs = ap (banked unknown) (whole ks row bs).list

-- Without its banks it is what the machines gave.
entries_are_told : (ks : List Memory) (row : List Bool) → Bytes ks
    → bare (list_from 0 (columns row (answers_from ks row))) ≡ entries_along ks row
unfolding list_from
entries_are_told ks row bs = bare_banked unknown _ ∙ (whole ks row bs).list

-- The list's writes replayed on the starting registers leave the registers that the chain has after the row: each at 0 to 63 goes into the
-- bank that the replayed bank register names; the list's banks are not asked.
pub replay_is_final : (ks : List Memory) (row : List Bool) → Bytes ks
    → replay ks (bare (list_from 0 (columns row (answers_from ks row)))) ≡ memories_after ks row
replay_is_final ks row bs = rw (entries_are_told ks row bs) (whole ks row bs).replayed

-- Request 07: "the listed executions, counted, are the chain's counts", slave by slave and code by code, from 0.
pub executions_are_counts : (ks : List Memory) (row : List Bool) → Bytes ks → Every Uncounted ks
    → map (λ k. k.counts) (memories_after ks row) ≡ executions (length ks) 0 (bare (list_from 0 (columns row (answers_from ks row))))
executions_are_counts ks row bs hs = rw (← replay_is_final ks row bs) (replayed_table ks _ hs)

-- Each read in the list shows the byte that stood there then: in the replay of the entries before it.
pub reads_show : (ks : List Memory) (row : List Bool) → Bytes ks → Shows ks (bare (list_from 0 (columns row (answers_from ks row))))
reads_show ks row bs = rw (entries_are_told ks row bs) (whole ks row bs).shown

-- Each `written` in it went to a slave that holds its ID and allows it at that address ..
pub writes_rightful : (ks : List Memory) (row : List Bool) → Bytes ks → Rightful ks (bare (list_from 0 (columns row (answers_from ks row))))
writes_rightful ks row bs = rw (entries_are_told ks row bs) (rightful ks row bs)

-- .. and so the bank that the list names after a `written` of an ID's bank register is the one that this register names then.
pub banks_named : (ks : List Memory) (row : List Bool) → Bytes ks → Every Paired ks
    → BanksStand (λ id. false) ks (list_from 0 (columns row (answers_from ks row)))
unfolding list_from
banks_named ks row bs ps =
    rw (whole ks row bs).list
    (banks_stand (λ id. false) unknown ks (entries_along ks row) refl ps (rightful ks row bs) (λ id t. absurd (false≢true t)))

-- A built read is understood: of a chain that holds the ID and allows the access at each address, and of a row built with the waiting
-- number of that slave, the list is `lock`, a `read` of each byte that stands there, in its last check column, and in the last P `closed`
-- exactly if the slave would not go on ..
pub read_understood : (ks : List Memory) (k : Memory) (id address n : ℕ) → Bytes ks → Allowed ks k false id address (suc n)
    → listed ks (row_for (read id address (suc n) k.wait))
    ≡ banked unknown
    (lock_shown ks ∷ bytes_shown k.wait false id address 0 (standing k address (suc n)) ++ closing k false id address n)
unfolding account
read_understood ks k id address n bs a = list_is_account ks _ bs ∙ ap (banked unknown) (read_shown ks bs k id address n a)

-- .. a built write alike, with `written` and the bytes lent ..
pub write_understood : (ks : List Memory) (k : Memory) (id address v : ℕ) (vs : List ℕ) → Bytes ks
    → Allowed ks k true id address (length (v ∷ vs)) → Every (λ b. b < 2 ^ data_bits) (v ∷ vs)
    → listed ks (row_for (write id address (v ∷ vs) k.wait))
    ≡ banked unknown
    (lock_shown ks ∷ bytes_shown k.wait true id address 0 (v ∷ vs) ++ closing k true id address (length vs))
unfolding account
write_understood ks k id address v vs bs a h = list_is_account ks _ bs ∙ ap (banked unknown) (write_shown ks bs k id address v vs a h)

-- .. and of a built command the list is `lock`, `command`, and `executed` or `withheld` as was asked, whatever the chain.
pub command_understood : (ks : List Memory) (ids cmd : ℕ) (execute : Bool) → Bytes ks → ids < 2 ^ 8 → cmd < 2 ^ 2
    → listed ks (row_for (command ids cmd execute))
    ≡ banked unknown (lock_shown ks ∷ command_shown ids cmd ∷ execution_shown ids cmd execute ∷ [])
unfolding account
command_understood ks ids cmd execute bs h k = list_is_account ks _ bs ∙ ap (banked unknown) (command_shown_lem ks bs ids cmd execute h k)

-- The header alone, which is the first thirty columns of such a row, is listed without a word on its execution.
pub header_understood : (ks : List Memory) (ids cmd : ℕ) (execute : Bool) → Bytes ks → ids < 2 ^ 8 → cmd < 2 ^ 2
    → listed ks (take (rest_zeros + 1 + header_columns) (row_for (command ids cmd execute)))
    ≡ banked unknown (lock_shown ks ∷ command_shown ids cmd ∷ [])
unfolding account
header_understood ks ids cmd execute bs h k = list_is_account ks _ bs ∙ ap (banked unknown) (header_shown_alone ks bs ids cmd execute h k)

-- A reader let in at column k lists of any columns what the whole list has after the first fourteen master zeros that lie
-- wholly at or after k, in all but the bank, and there too after a `written` of that ID's bank register in its own list ..
pub late_opening : (cs : List Column) (k j : ℕ) → FirstFourteen (masters cs) k j
    → Agrees (list_from k cs) (from_column (j + rest_zeros) (list_from 0 cs))
unfolding list_from
late_opening cs k j f =
    rw (from_fourteen cs 0 j (omega arith) f.fourteen, from_first cs k j f) (agrees_at_rest cs 0 j (omega arith) f.fourteen)

-- .. and nothing where there are no such zeros.
pub late_nothing : (cs : List Column) (k : ℕ) → NoFourteen (masters cs) k → list_from k cs ≡ []
unfolding list_from entries_from banked
late_nothing cs k f =
    ap (banked unknown)
    (sleeps (drop k cs) 0 (opened k) (omega arith) (none_later (masters cs) _ k k (sym (masters_drop k cs)) (omega arith) f))

-- The start of every entry that a reader let in at k lists is the S of its frame, by the master row alone: behind fourteen zeros at or
-- after k, and the one such column ..
pub start_is_s : (cs : List Column) (k : ℕ) → Every (λ e. Started (masters cs) k e.entry.place) (list_from k cs)
unfolding list_from
start_is_s cs k = every_banked _ unknown _ (starts cs k)

pub one_start : (row : List Bool) {j k : ℕ} (p q : Place) → Started row j p → Started row k q → p.column ≡ q.column → p.start ≡ q.start
one_start row p q s t same = start.one_start row p q s t same

-- .. and let in before those zeros it lists that entry too: it agrees from some entry on, up to that entry.
pub open_at_frame : (cs : List Column) (k i : ℕ) (e : Entry) → get_elem? (bare (list_from k cs)) i ≡ some e
    → OpenedAt cs k i e.place.start
unfolding list_from
open_at_frame cs k i e there = opened_at cs k i e (rw (bare_banked unknown (entries_from k cs)) at there)

-- Two runs with the same banks, rights, waits, bank registers and master row that differ only in registers without the read right give the
-- same answer row.
pub two_runs : (ks ks' : List Memory) (row : List Bool) → Alike ks ks' → answers_from ks row ≡ answers_from ks' row
unfolding answers_from
two_runs ks ks' row h = same_answers (switched_on ks) (switched_on ks') row (twins ks ks' h)

-- From any state, columns that begin with fourteen master zeros bring the reader to rest, whatever their answers ..
pub reader_rests : (s : Timed Phase) (cs : List Column) → Zeros rest_zeros (masters cs) → Reader.after s (take rest_zeros cs) ≡ rest
reader_rests s cs zeros = rests rest_zeros s cs (fourteen begun s) zeros

-- .. and fourteen zeros bring every slave of any chain to rest, from any states.
pub slaves_rest : (ss : List Slave) → Every (λ s. s.state ≡ rest) (Chain.after ss (replicate rest_zeros false))
slaves_rest ss = soon_after rest_zeros ss (all_soon ss)

-- The chain's account never holds lockodd, odd, readbad, echo, ackodd or forced.
pub no_breaches : (ks : List Memory) (row : List Bool) → Every (λ e. Sound e.entry.event) (account ks row)
unfolding account entries_along
no_breaches ks row = every_banked (λ e. Sound e.event) unknown _ (fair_along (switched_on ks) power_on (opened 0) row)

-- Request 03: a slave with the waiting number 0 confirms S at once, as if there were no waits ..
pub at_once : (k : Memory) (writing : Bool) (address nth : ℕ) (b : Bool) → Prompt k
    → speak k (byte_s writing address nth 0) true b ≡ turn (confirmed k writing address nth) true k
at_once k writing address nth b h = waits.at_once k writing address nth b h

-- .. any slave confirms that of a write's first byte at once ..
pub first_write : (k : Memory) (address : ℕ) (b : Bool) → speak k (byte_s true address 1 0) true b ≡ turn (confirmed k true address 1) true k
first_write k address b = waits.first_write k address b

-- .. and where every slave has the waiting number 0, the account holds no `mute`.
pub no_mute : (ks : List Memory) (row : List Bool) → Every Prompt ks → Every (λ e. Loud e.entry.event) (account ks row)
unfolding account
no_mute ks row hs = every_banked (λ e. Loud e.event) unknown _ (waits.loud ks row hs)
