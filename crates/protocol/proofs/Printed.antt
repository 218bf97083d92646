-- Worked texts: the bench card's run as it prints, and what is told of bad texts, each worked out from paper 01 and request 01 by hand.
-- By computation. Assumes nothing.
use mathlib.Core.Path.{◌≡◌, refl}
use mathlib.Core.List.{List, [], ◌∷◌, map}
use mathlib.Core.Option.{Option, none, some}
use Prim.Native.Nat.{ℕ}
use lib.ListN.{take, set}
use Rattle.protocol.specs.Entries.{Kind, bytes}
use Rattle.protocol.specs.Banks.{Banked}
use Rattle.protocol.specs.Text.{column_lines, rows_text, digits_in, decimal, field, cells, entry_line, entry_lines, list_text}
use Rattle.protocol.specs.Fault.{stop, Fault, fault_at, text_fault}
use Rattle.protocol.proofs.Cases.{entry}

-- Bench card: what the indexing program "prints whole".
bench : List Banked
bench = entry Kind.lock 23 0 0 1 ∷ entry Kind.read 44 0 68 90 ∷ entry Kind.end 46 0 0 0 ∷ []

bench_prints : list_text bench
    ≡ bytes "event\tcolumn\tstart\tid\taddress\tbank\tvalue\nlock\t23\t14\t-\t-\t-\t1\nread\t44\t14\t0\t68\t-\t90\nend\t46\t14\t-\t-\t-\t-\n"
unfolding bench entry list_text entry_lines entry_line cells field decimal digits_in
bench_prints = refl

rows_print : rows_text (0 ∷ 1 ∷ []) (1 ∷ 1 ∷ []) ≡ bytes "cdm\tcds\n0\t1\n1\t1\n"
unfolding rows_text column_lines
rows_print = refl

-- What is told of a text, by number, line and byte ..
abbrev tells : (number line byte : ℕ) → Option Fault
tells number line byte = some (record { number = number; line = line; byte = byte })

good : List ℕ
good = bytes "cdm\tcds\n0\t1\n1\t0\n"

-- .. with a wrong byte at each place of the header and of a line, ..
abbrev spoiled : (place : ℕ) → List ℕ
spoiled p = set good p 120

bytes_told : map (λ p. text_fault (spoiled p)) (0 ∷ 1 ∷ 2 ∷ 3 ∷ 4 ∷ 5 ∷ 6 ∷ 7 ∷ 8 ∷ 9 ∷ 10 ∷ 11 ∷ 12 ∷ [])
    ≡ tells 13 1 0 ∷ tells 13 1 1 ∷ tells 13 1 2 ∷ tells 13 1 3 ∷ tells 13 1 4 ∷ tells 13 1 5 ∷ tells 13 1 6 ∷ tells 13 1 7 ∷ tells 14 2 0
    ∷ tells 15 2 1 ∷ tells 14 2 2 ∷ tells 16 2 3 ∷ tells 14 3 0 ∷ []
unfolding good text_fault fault_at stop
bytes_told = refl

-- .. cut at each of them, where nothing at all is one, ..
ends_told : map (λ p. text_fault (take p good)) (0 ∷ 1 ∷ 2 ∷ 3 ∷ 4 ∷ 5 ∷ 6 ∷ 7 ∷ 8 ∷ 9 ∷ 10 ∷ 11 ∷ 12 ∷ 13 ∷ [])
    ≡ tells 13 1 0 ∷ tells 17 1 1 ∷ tells 17 1 2 ∷ tells 17 1 3 ∷ tells 17 1 4 ∷ tells 17 1 5 ∷ tells 17 1 6 ∷ tells 17 1 7 ∷ none ∷ tells 17 2 1
    ∷ tells 17 2 2 ∷ tells 17 2 3 ∷ none ∷ tells 17 3 1 ∷ []
unfolding good text_fault fault_at stop
ends_told = refl

-- .. and where more than one byte is wrong, so that the first decides: blanks for both TABs; a line of blanks; TAB and LF missing; a carriage
-- return before the LF; an LF too many, behind the header and at the end; a digit 2 before the text is cut. Of a good text nothing.
texts : List (List ℕ)
texts =
    bytes "cdm cds\n0 1\n" ∷ bytes "cdm\tcds\n    " ∷ bytes "cdm\tcds\n0 1 " ∷ bytes "cdm\tcds\n0\t1\r\n" ∷ bytes "cdm\tcds\n\n"
    ∷ bytes "cdm\tcds\n0\t1\n\n" ∷ bytes "cdm\tcds\n0\t1\n2\t1\n0\t0" ∷ good ∷ []

faults_told : map text_fault texts
    ≡ tells 13 1 3 ∷ tells 14 2 0 ∷ tells 15 2 1 ∷ tells 16 2 3 ∷ tells 14 2 0 ∷ tells 14 3 0 ∷ tells 14 3 0 ∷ none ∷ []
unfolding texts good text_fault fault_at stop
faults_told = refl
