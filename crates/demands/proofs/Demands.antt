-- What the scope demands, of the jobs' own results: byte rows, chains of up to 16 slaves, registers and rights as they are lent. `Ok`
-- says that a job accepted; a name with a prime, or `after`, is what it left in the buffer that was lent to it. That fourteen zeros bring
-- every slave and the reader to rest speaks of states and not of results: protocol's slaves_rest and reader_rests. Assumes nothing.
use mathlib.Core.Path.{◌≡◌, refl, sym, ap, ◌∙◌}
use mathlib.Core.Bool.{true, false}
use mathlib.Core.List.{List, map}
use Prim.Native.Nat.{ℕ, ◌+◌, ◌-◌, ◌*◌, ◌≤◌, ◌<◌}
use native.Mathlib.Omega.{arith}
use borrow.Author.Tests.{le-ltb}
use lib.Dec.{eqb}
use lib.ListN.{length, take, get_or}
use Rattle.protocol.specs.Limits.{rest_zeros}
use Rattle.protocol.specs.Bits.{num, row_of}
use Rattle.protocol.specs.Layout.{current, entry_bytes, list_bytes, entries_in, is_list}
use Rattle.protocol.specs.Account.{account}
use Rattle.protocol.specs.Banks.{bare}
use Rattle.protocol.specs.Replay.{replay, Shows, Rightful, BanksStand}
use Rattle.protocol.specs.Late.{FirstFourteen, NoFourteen, from_column, Agrees, Started}
use Rattle.protocol.specs.Text.{rows_text, list_text, has, bad_line, cdm_of, cds_of}
use Rattle.protocol.specs.Fault.{place_of, form_at, fault_line}
use Rattle.laws.proofs.Every.{Every}
use Rattle.protocol.proofs.Codec.{bytes_list}
use Rattle.protocol.proofs.Demands as protocol
use Rattle.protocol.proofs.Text.{back_and_there}
use Rattle.protocol.proofs.Fault as told
use Rattle.protocol.proofs.Fault.{same_line}
use Rattle.std.specs.Prelude.{Result, Ok, Err}
use Rattle.job.specs.declared.Reason.{Reason}
use Rattle.job.specs.declared.Refusal.{Refusal}
use Rattle.job.specs.declared.Detail.TheVariants.{OnLine}
use Rattle.job.proofs.Refusals.{ended_none}
use Rattle.run.specs.Run.{memories_of, registers_of, Ran}
use Rattle.read.specs.Read.{list_of, Listed}
use Rattle.print.proofs.Ends.{was_printed}
use Rattle.list_text.specs.Lists.{ListPrinted}
use Rattle.list_text.proofs.Lists.{list_none}
use Rattle.rows_text.specs.RowsText.{RowsPrinted, RowsTaken}
use Rattle.demands.specs.Lent.{are_bytes, executions_in, list_in, kind_at, place_at, Reopened, is_breach, none_waits, DifferUnread, bank_registers}
use Rattle.demands.proofs.Chains.{memories_prompt, all_alike}
use Rattle.demands.proofs.Lists as list
use Rattle.demands.proofs.Lists.{list_count, list_bytes_lem, list_entries, list_empty, list_late, list_never, kind_at_lem}
use Rattle.demands.proofs.Answers.{row_bytes, rows_read, row_account, row_shows, row_rightful, row_banks, row_replay, row_counts, counts_few}
use Rattle.demands.proofs.Texts.{rows_taken, was_told, printed_back, printed_taken}

-- A run that was accepted, on registers lent as bytes, and the list that read made of the master row and the answer row alone.
module _ {slaves c n : ℕ} {table rights waits registers counts cdm cds registers' counts' cds' lent after : List ℕ}
    (bytes : are_bytes registers ≡ true)
    (ran : Ran slaves table rights waits registers counts cdm cds (Ok c) registers' counts' cds') (listed : Listed cdm cds' 0 lent (Ok n) after) where
  -- "The list read from the two rows alone is the chain's own account, entry for entry": as many entries, and every byte of them.
  pub list_is_account : (n ≡ length (account (memories_of table registers rights waits) (row_of cdm)))
      × (list_in n after ≡ list_bytes current (account (memories_of table registers rights waits) (row_of cdm)))
  list_is_account = (list_count listed ∙ ap length (row_account ran bytes), list_bytes_lem listed ∙ ap (list_bytes current) (row_account ran bytes))

  -- "Its writes replayed on the starting registers give the final registers": those that run left. Request 05: "demand 3's replay uses the
  -- replayed bank register".
  pub replay_is_final : registers_of (replay (memories_of table registers rights waits) (bare (entries_in current (list_in n after)))) ≡ registers'
  replay_is_final = rw (list_entries listed) (row_replay ran bytes)

  -- Request 07: "the listed executions, counted, are the chain's counts": those that run left, all of them; and each is at most as high as the
  -- row has columns, so that 32 bits hold it.
  pub executions_are_counts : executions_in slaves (list_in n after) ≡ counts'
  unfolding executions_in
  executions_are_counts = rw (list_entries listed) (sym (row_counts ran bytes))

  pub counts_bounded : Every (λ count. count ≤ length cdm) counts'
  counts_bounded = counts_few ran bytes

  -- "Each read shows the byte that stood there then": in the replay of the entries before it.
  pub reads_show : Shows (memories_of table registers rights waits) (bare (entries_in current (list_in n after)))
  reads_show = rw (list_entries listed) (row_shows ran bytes)

  -- Each `written` went to a slave that holds its ID and allows it at that address ..
  pub writes_rightful : Rightful (memories_of table registers rights waits) (bare (entries_in current (list_in n after)))
  writes_rightful = rw (list_entries listed) (row_rightful ran bytes)

  -- .. and so the bank that the list names after a `written` of an ID's bank register is the one that this register names then.
  pub banks_named : BanksStand (λ id. false) (memories_of table registers rights waits) (entries_in current (list_in n after))
  banks_named = rw (list_entries listed) (row_banks ran bytes)

  -- No entry of the list is of a kind 2, 8, 12, 14, 19 or 20: only damaged rows show a breach ..
  pub no_breaches : (place : ℕ) → place < n → is_breach (kind_at (list_in n after) place) ≡ false
  unfolding is_breach
  no_breaches place h =
      rw list_is_account.1
      (kind_at_lem (λ kind. is_breach kind ≡ false) (account (memories_of table registers rights waits) (row_of cdm)) place
      (protocol.no_breaches _ (row_of cdm)) (omega (arith, list_is_account.0)))

  -- .. and none is a `mute`, 9, where no slave waits.
  pub no_mute : none_waits waits ≡ true → (place : ℕ) → place < n → eqb (kind_at (list_in n after) place) 9 ≡ false
  no_mute prompt place h =
      rw list_is_account.1
      (kind_at_lem (λ kind. eqb kind 9 ≡ false) (account (memories_of table registers rights waits) (row_of cdm)) place
      (protocol.no_mute _ (row_of cdm) (memories_prompt table registers rights waits prompt)) (omega (arith, list_is_account.0)))

-- Every accepted run has such a list: read refuses its two rows from no opening column in them, if an entry has room for each column.
pub run_is_read : {slaves c k : ℕ} {table rights waits registers counts cdm cds registers' counts' cds' lent after : List ℕ} {outcome : Result ℕ Refusal}
    → Ran slaves table rights waits registers counts cdm cds (Ok c) registers' counts' cds' → Listed cdm cds' k lent outcome after
    → k ≤ length cdm → entry_bytes current * length cdm ≤ length lent → outcome ≡ Ok (length (list_of k cdm cds'))
run_is_read {k} {lent} ran listed opening room =
    ended_none listed.ends (rows_read ran k lent opening room)

-- The list that read made of any two rows, let in at column k.
module _ {cdm cds lent after : List ℕ} {k n : ℕ} (listed : Listed cdm cds k lent (Ok n) after) where
  -- "A reader let in at column k lists exactly the full list's entries after the first run of fourteen master zeros" lying wholly at or
  -- after k: they begin at column j, and the full list is the one that read makes from column 0. Request 05: it "agrees in all but the bank,
  -- and there too after a `written` of that ID's bank register in its own list" ..
  pub late_opening : {lent' whole : List ℕ} {m j : ℕ} → Listed cdm cds 0 lent' (Ok m) whole → FirstFourteen (row_of cdm) k j
      → Agrees (entries_in current (list_in n after)) (from_column (j + rest_zeros) (entries_in current (list_in m whole)))
  late_opening full first = rw (list_entries listed, list_entries full) (list_late listed first)

  -- .. "or nothing if there is none": no entry, and no byte of the lent buffer changed.
  pub late_nothing : NoFourteen (row_of cdm) k → (n ≡ 0) × (after ≡ lent)
  late_nothing never = list_empty listed (list_never listed never)

  -- Request 02: the start that an entry shows is "the column of its frame's S", by the master row alone, behind fourteen zeros at or after
  -- k ..
  pub start_is_s : {i : ℕ} → i < n → Started (row_of cdm) k (place_at (list_in n after) i)
  start_is_s there = list.start_is_s listed there

  -- .. and let in before those zeros, with as much room, read lists that entry too, but for the bank.
  pub open_at_frame : {i : ℕ} {lent' after' : List ℕ} {outcome : Result ℕ Refusal} → i < n
      → Listed cdm cds ((place_at (list_in n after) i).start - rest_zeros) lent' outcome after' → length lent ≤ length lent'
      → Reopened n i (list_in n after) outcome after'
  open_at_frame there again room = list.reopened listed there again room

  -- List to text never refuses it by 12, and with room for its text prints it.
  pub list_prints : {room out : List ℕ} {outcome : Result ℕ Refusal} → ListPrinted (list_in n after) room outcome out
      → length (list_text (entries_in current (list_in n after))) ≤ length room → outcome ≡ Ok (length (list_text (entries_in current (list_in n after))))
  list_prints {room} printed enough =
      let is_list_lem : is_list current (list_in n after) ≡ true = rw (list_bytes_lem listed) (bytes_list current (list_of k cdm cds)) in
      ended_none printed (list_none (list_in n after) (length room) is_list_lem (le-ltb _ _ enough))

-- "Two runs with the same rights and master row that differ only in registers without the read right give the same answer row": the banks,
-- the waits and (Request 05) the bank registers are the same too.
pub two_runs : {slaves c d : ℕ}
    {table rights waits cdm registers counts cds registers' counts' cds' others tally row others' tally' row' : List ℕ}
    → Ran slaves table rights waits registers counts cdm cds (Ok c) registers' counts' cds'
    → Ran slaves table rights waits others tally cdm row (Ok d) others' tally' row'
    → DifferUnread rights registers others → bank_registers table registers ≡ bank_registers table others → cds' ≡ row'
two_runs {table} {waits} {cdm} ran ran' differ same =
    row_bytes ran ∙ ap (map num) (protocol.two_runs _ _ (row_of cdm) (all_alike table waits differ same)) ∙ sym (row_bytes ran')

-- "Rows go to text and back unchanged": what rows to text wrote, text to rows takes back, into rows with room for it.
pub rows_come_back : (cdm cds : List ℕ) {lent text a b a' b' : List ℕ} {n : ℕ} {outcome : Result ℕ Refusal}
    → RowsPrinted cdm cds lent (Ok n) text → RowsTaken (take n text) a b outcome a' b'
    → length cdm ≤ length a → length cdm ≤ length b
    → (outcome ≡ Ok (length cdm)) × (take (length cdm) a' ≡ cdm) × (take (length cdm) b' ≡ cds)
rows_come_back cdm cds printed rows room room' =
    let accepted = printed_taken cdm cds printed rows room room' in
    let there = rows_taken (rw accepted at rows) in
    let back = printed_back cdm cds printed in
    (accepted, there.cdm_there ∙ back.cdm_back, there.cds_there ∙ back.cds_back)

-- .. and a text that it takes is that of its rows, byte for byte.
pub text_is_rows : {text a b a' b' : List ℕ} {c : ℕ} → RowsTaken text a b (Ok c) a' b' → text ≡ rows_text (take c a') (take c b')
text_is_rows {text} rows =
    let there = rows_taken rows in rw (there.cdm_there, there.cds_there) (back_and_there text there.good)

-- Request 01, "Tell us what is wrong with the line", of a text that text to rows refuses with a line: it is the first bad line of the text;
-- "the first bad byte decides", so that every byte before the place told has its form, and the byte there, if there is one, has not.
module _ {text a b a' b' : List ℕ} {reason : Reason} {line byte : ℕ}
    (refused : RowsTaken text a b (Err (record { reason = reason; beside = OnLine line byte })) a' b') where
  pub first_bad_line : line ≡ bad_line text
  first_bad_line = sym (ap fault_line (was_told refused)) ∙ same_line text

  pub good_before : (i : ℕ) → i < place_of line byte → (i < length text) × (has (form_at i) (get_or text i 0) ≡ true)
  good_before = told.good_before text _ (was_told refused)

  pub bad_there : (i : ℕ) → i ≡ place_of line byte → i < length text → has (form_at i) (get_or text i 0) ≡ false
  bad_there = told.bad_there text _ (was_told refused)

-- Text to rows, read and list to text, one after the other on any text, as a program does that indexes a recording.
module _ {text a b a' b' lent list room out : List ℕ} {c k n p : ℕ} (rows : RowsTaken text a b (Ok c) a' b')
    (listed : Listed (take c a') (take c b') k lent (Ok n) list) (printed : ListPrinted (list_in n list) room (Ok p) out) where
  -- What is printed is the list of the rows in the text ..
  pub list_is_printed : take p out ≡ list_text (list_of k (cdm_of text) (cds_of text))
  list_is_printed =
      let there = rows_taken rows in
      (was_printed printed).2 ∙ ap list_text (list_entries listed ∙ rw (there.cdm_there, there.cds_there))

  -- .. and of a text that rows to text wrote it is the list of the rows that were written.
  pub written_is_printed : (cdm cds : List ℕ) {lent' written : List ℕ} {m : ℕ} → RowsPrinted cdm cds lent' (Ok m) written
      → text ≡ take m written → take p out ≡ list_text (list_of k cdm cds)
  written_is_printed cdm cds wrote same =
      let back = printed_back cdm cds wrote in
      list_is_printed ∙ rw (same, back.cdm_back, back.cds_back)

-- All of it: a chain is run, its rows are written as text, the text is indexed, and what is printed is the chain's own account.
pub account_is_printed : {slaves c d n m p : ℕ}
    {table rights waits registers counts cdm cds registers' counts' cds' lent written a b a' b' lent' list room out : List ℕ} → are_bytes registers ≡ true
    → Ran slaves table rights waits registers counts cdm cds (Ok c) registers' counts' cds' → RowsPrinted cdm cds' lent (Ok m) written
    → RowsTaken (take m written) a b (Ok d) a' b' → Listed (take d a') (take d b') 0 lent' (Ok n) list
    → ListPrinted (list_in n list) room (Ok p) out
    → take p out ≡ list_text (account (memories_of table registers rights waits) (row_of cdm))
account_is_printed {cdm} {cds'} bytes ran wrote rows listed printed =
    written_is_printed rows listed printed cdm cds' wrote refl ∙ rw (row_account ran bytes)
