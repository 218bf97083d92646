-- What read's helpers do, for their contracts: nothing here is needed to read what read promises.
use Rattle.std.specs.Prelude.{◌≡◌, cond, List, [], ◌∷◌, ℕ, ◌+◌, ◌*◌, ◌/◌, ◌≤◌, ltb, length}
use Rattle.std.proofs.lemmas.List.Edits.{sets}
use Rattle.protocol.specs.Limits.{column_limit}
use Rattle.protocol.specs.Rest.{Timed}
use Rattle.protocol.specs.Entries as protocol
use Rattle.protocol.specs.Banks.{Banked, learnt_all, banked}
use Rattle.protocol.specs.Layout.{current, entry_bytes, bytes_of}
use Rattle.protocol.specs.Reader.{Phase, Column, entries, after, place_after}
use Rattle.reader.specs.Code.{state_of, place_of}
use Rattle.read.specs.declared.Place.{Place}
use Rattle.read.specs.declared.Reading.{Reading}

-- What the rows are where 5 to 8 are not given; the bytes' values do not matter to the scan.
pub record Rows (cdm cds : List ℕ) (k : ℕ) : Type 0 where
  pub short : length cdm ≤ column_limit
  pub equal : length cdm ≡ length cds
  pub within : k ≤ length cdm

-- A place of the code, as protocol has it.
abbrev pub place_in : Place → protocol.Place
place_in p = record { column = p.column; start = p.start }

-- It lies within a row, or just behind one.
abbrev pub InRow : Place → Type 0
InRow p = (p.column ≤ column_limit) × (p.start ≤ p.column)

-- The bytes of an entry by its parts.
abbrev pub entry_of : protocol.Place → protocol.Event → (bank : ℕ) → List ℕ
entry_of p e bank = bytes_of current (record { entry = record { place = p; event = e }; bank = bank })

-- So many entries have room.
abbrev pub room_of : (out : List ℕ) → ℕ
room_of out = length out / entry_bytes current

-- The buffer after one entry more, n being there before it ..
unfoldable pub kept : (out : List ℕ) → (n : ℕ) → (bytes : List ℕ) → List ℕ
kept out n bytes = cond (ltb n (room_of out)) (sets out (entry_bytes current * n) bytes) out

-- .. and after several: as many as there is room for.
unfoldable pub kept_all : (out : List ℕ) → (n : ℕ) → List Banked → List ℕ
kept_all out n [] = out
kept_all out n (e ∷ es) = kept_all (kept out n (bytes_of current e)) (n + 1) es

-- How far a reading has come: the reader's state, the place of the next column, what is known of the banks, how many entries there were,
-- and the buffer.
pub record Reached : Type 0 where
  pub state : Timed Phase
  pub place : protocol.Place
  pub known : List ℕ
  pub count : ℕ
  pub buffer : List ℕ

-- Over columns, from any state ..
unfoldable pub reached : Timed Phase → protocol.Place → (known : List ℕ) → (n : ℕ) → (out : List ℕ) → List Column → Reached
reached s p known n out cs =
    let es : List protocol.Entry = entries s p cs in
    record {
      state = after s cs;
      place = place_after s p cs;
      known = learnt_all known es;
      count = n + length es;
      buffer = kept_all out n (banked known es);
    }

-- .. and of the code.
abbrev pub reached_by : Reading → (out : List ℕ) → Reached
reached_by r out =
    record {
      state = state_of r.reader;
      place = place_of r.reader r.column;
      known = r.banks.known;
      count = r.count;
      buffer = out;
    }
