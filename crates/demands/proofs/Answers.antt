-- What an accepted run leaves: its answer row, that its two rows are rows to read, and what protocol demands of their list.
-- Assumes nothing.
use mathlib.Core.Path.{◌≡◌, sym, ap, ◌∙◌}
use mathlib.Core.Bool.{true, false}
use mathlib.Core.List.{List, map}
use mathlib.Core.Option.{none}
use Prim.Native.Nat.{ℕ, ◌*◌, ◌≤◌}
use native.Mathlib.Omega.{arith}
use lib.ListN.{length, length-map}
use Rattle.protocol.specs.Bits.{num, bit_of, row_of}
use Rattle.protocol.specs.Memory.{Memory}
use Rattle.protocol.specs.Chain.{switched_on, answers_from, memories_after}
use Rattle.protocol.specs.Reader.{columns, list_from}
use Rattle.protocol.specs.Account.{account}
use Rattle.protocol.specs.Banks.{bare}
use Rattle.protocol.specs.Pieces.{joined}
use Rattle.protocol.specs.Entries.{Entry}
use Rattle.protocol.specs.Replay.{replay, executions, Shows, Rightful, BanksStand}
use Rattle.laws.proofs.Every.{Every}
use Rattle.protocol.proofs.Memories.{Bytes}
use Rattle.protocol.proofs.Rows.{answers_length}
use Rattle.protocol.proofs.Counts.{executions_long, executions_few}
use Rattle.protocol.proofs.Demands as protocol
use Rattle.job.specs.Refusals.{first, lent, lent_after}
use Rattle.job.specs.Rows.{wrong_rows}
use Rattle.std.specs.Prelude.{Ok}
use Rattle.job.proofs.Bits.{num_bits}
use Rattle.job.proofs.Refusals.{was_made, laid_whole}
use Rattle.job.proofs.Rows.{not_wrong}
use Rattle.run.specs.Run.{memories_of, registers_of, counts_of, refusals, Ran}
use Rattle.run.specs.Parts.{Holds}
use Rattle.run.proofs.Rows.{row_num}
use Rattle.run.proofs.Ends.{right_table, held, short_row, same_rows, master_bits}
use Rattle.read.specs.Read as Read
use Rattle.protocol.specs.Layout.{current, entry_bytes}
use Rattle.protocol.proofs.Codec.{length_list}
use Rattle.read.specs.Read.{rows_refusals, list_of}
use Rattle.read.proofs.Left.{length_listed}
use Rattle.read.proofs.Ends.{rows_good, not_refused}
use Rattle.demands.specs.Lent.{are_bytes}
use Rattle.demands.proofs.Chains.{memories_bytes, memories_paired, memories_uncounted, memories_many, counts_joined, registers_back, replay_length}

module _ {slaves c : ℕ} {table rights waits registers counts cdm cds registers' counts' cds' : List ℕ}
    (ran : Ran slaves table rights waits registers counts cdm cds (Ok c) registers' counts' cds') where
  -- The chain's memories as they were lent.
  abbrev chain : List Memory
  chain = memories_of table registers rights waits

  through : first (refusals slaves table (length registers) rights (length waits) (length counts) cdm (length cds)) ≡ none
  through = (was_made ran.ends).0

  holds : Holds table registers rights waits counts
  holds = held slaves table registers rights waits counts cdm cds through

  answers_long : length (map num (answers_from chain (row_of cdm))) ≡ length cdm
  unfolding answers_from row_of
  answers_long =
      length-map (answers_from chain (row_of cdm)) num ∙ answers_length (switched_on chain) (row_of cdm) ∙ length-map cdm bit_of

  -- The lent answer row holds the chain's answers, and nothing else.
  pub row_bytes : cds' ≡ map num (answers_from chain (row_of cdm))
  row_bytes =
      let row_after : cds' ≡ lent_after none (lent (map num (answers_from chain (row_of cdm))) cds) = cc (was_made ran.ends).2 in
      row_after ∙ sym (laid_whole _ cds (answers_long ∙ sym (same_rows slaves table registers rights waits counts cdm cds through)))

  row_answers : row_of cds' ≡ answers_from chain (row_of cdm)
  row_answers = ap row_of row_bytes ∙ row_num (answers_from chain (row_of cdm))

  row_long : length cds' ≡ length cdm
  row_long = ap length row_bytes ∙ answers_long

  -- Read refuses neither row by 5 to 8, and an entry's room for each column is enough.
  rows_right : (k : ℕ) → k ≤ length cdm → first (rows_refusals cdm cds' k) ≡ none
  rows_right k h =
      let right : first (wrong_rows cdm cds') ≡ none = not_wrong cdm cds' (record {
        short = short_row slaves table registers rights waits counts cdm cds through;
        same = sym row_long;
        cdm_bits = master_bits slaves table registers rights waits counts cdm cds through;
        cds_bits = rw row_bytes (num_bits (answers_from chain (row_of cdm)));
      }) in
      sym (rows_good cdm cds' k (sym right) h)

  pub rows_read : (k : ℕ) (out : List ℕ) → k ≤ length cdm → entry_bytes current * length cdm ≤ length out
      → first (Read.refusals cdm cds' k (length out)) ≡ none
  rows_read k out h room =
      not_refused cdm cds' k out (rows_right k h) (omega (arith, length_list current (list_of k cdm cds'), length_listed k cdm cds'))

  -- The list of the two rows is that of the master row and the chain's answers.
  pub row_list : list_of 0 cdm cds' ≡ list_from 0 (columns (row_of cdm) (answers_from chain (row_of cdm)))
  unfolding list_of
  row_list = rw row_answers

  -- Line's demands, of that list: it is the account, ..
  module _ (bytes : are_bytes registers ≡ true) where
    chain_bytes : Bytes chain
    chain_bytes = memories_bytes table registers rights waits bytes

    pub row_account : list_of 0 cdm cds' ≡ account chain (row_of cdm)
    row_account = row_list ∙ protocol.list_is_account chain (row_of cdm) chain_bytes

    -- .. its reads show what stood there, ..
    pub row_shows : Shows chain (bare (list_of 0 cdm cds'))
    row_shows = rw row_list (protocol.reads_show chain (row_of cdm) chain_bytes)

    -- .. its writes went where they were allowed, and the banks that it names were those of the bank registers, ..
    pub row_rightful : Rightful chain (bare (list_of 0 cdm cds'))
    row_rightful = rw row_list (protocol.writes_rightful chain (row_of cdm) chain_bytes)

    pub row_banks : BanksStand (λ id. false) chain (list_of 0 cdm cds')
    row_banks =
        rw row_list
        (protocol.banks_named chain (row_of cdm) chain_bytes
        (memories_paired table registers rights waits (holds.all_rights ∙ sym holds.all_registers)))

    -- .. and its replay gives the lent registers, all of them, as run left them.
    row_final : replay chain (bare (list_of 0 cdm cds')) ≡ memories_after chain (row_of cdm)
    row_final = rw row_list (protocol.replay_is_final chain (row_of cdm) chain_bytes)

    pub row_replay : registers_of (replay chain (bare (list_of 0 cdm cds'))) ≡ registers'
    row_replay =
        let as_lent : registers_of chain ≡ registers
        = registers_back table registers rights waits holds.all_registers in
        let long : length (registers_of (memories_after chain (row_of cdm))) ≡ length registers
        = rw (← row_final) (replay_length chain (bare (list_of 0 cdm cds')) ∙ ap length as_lent) in
        let registers_after : registers' ≡ lent_after none (lent (registers_of (memories_after chain (row_of cdm))) registers)
        = cc (was_made ran.ends).2 in
        ap registers_of row_final ∙ laid_whole _ registers long ∙ sym registers_after

    -- .. and its executions, counted, are the lent counts, all of them, as run left them.
    pub row_counts : counts' ≡ joined (executions slaves 0 (bare (list_of 0 cdm cds')))
    row_counts =
        let table_long : length table ≡ slaves = (right_table slaves table registers rights waits counts cdm cds through).0 in
        let many : length chain ≡ slaves = memories_many table registers rights waits ∙ table_long in
        let counted : counts_of (memories_after chain (row_of cdm)) ≡ joined (executions slaves 0 (bare (list_of 0 cdm cds')))
        = rw (counts_joined, row_list, ← many)
        (ap joined (protocol.executions_are_counts chain (row_of cdm) chain_bytes (memories_uncounted table registers rights waits))) in
        let long : length (counts_of (memories_after chain (row_of cdm))) ≡ length counts
        = rw (counted, executions_long) (omega (arith, holds.all_counts, table_long)) in
        let counts_after : counts' ≡ lent_after none (lent (counts_of (memories_after chain (row_of cdm))) counts)
        = cc (was_made ran.ends).2 in
        counts_after ∙ sym (laid_whole _ counts long) ∙ counted

    -- At most one entry falls in a column, so that no count is above the columns.
    pub counts_few : Every (λ n. n ≤ length cdm) counts'
    counts_few =
        let entries : List Entry = bare (list_of 0 cdm cds') in
        let short : length entries ≤ length cdm = omega (arith, length-map (list_of 0 cdm cds') (λ x. x.entry), length_listed 0 cdm cds') in
        rw row_counts (executions_few slaves 0 (length cdm) entries short)
