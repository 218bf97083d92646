-- The master rows of one request: fourteen zeros and one frame.
--
--   zeros   S   header         R W   then for each byte   S            twelve bits   P
--   14      1   15             2                          1 + delay    12            1
--   zeros   S   header   S     zeros                      EX           a command
--   14      1   15       1     7, in a broadcast none     1
use Rattle.std.specs.Prelude.{Bool, true, false, List, [], ◌∷◌, ◌++◌, map, ℕ, ◌+◌, ◌-◌, replicate}
use Rattle.protocol.specs.Limits.{rest_zeros, header_columns}
use Rattle.protocol.specs.Bits.{bits}
use Rattle.protocol.specs.Division.{header_bits, data_bits, top_bit, word}
use Rattle.protocol.specs.Header.{access_word, command_word}
use Rattle.protocol.specs.Commands.{execute_column}
use Rattle.protocol.specs.Memory.{delay_by}

-- "build a master row for one request": read (id, address, count), write (id, address, lent bytes), command (IDS, CMD). Request 03: "The
-- builder takes the waiting number". Request 07: a command with its execution, sent or not.
pub data Request : Type 0 where
  read : (id address count wait : ℕ) → Request
  write : (id address : ℕ) → List ℕ → (wait : ℕ) → Request
  command : (ids cmd : ℕ) → (execute : Bool) → Request

-- S and the header's fifteen bits.
abbrev pub frame_head : ℕ → List Bool
frame_head v = true ∷ bits header_columns (word header_bits v)

-- Byte nth of an access and those after it, each by its twelve bits: S, the twelve bits and P = 0. Request 03: the builder "repeats S that
-- often at every byte that waits".
unfoldable pub byte_columns : (writing : Bool) → (wait nth : ℕ) → (bytes : List (List Bool)) → List Bool
byte_columns writing wait nth [] = []
byte_columns writing wait nth (twelve ∷ bytes) =
    replicate (delay_by wait writing nth) true ++ true ∷ (twelve ++ false ∷ byte_columns writing wait (nth + 1) bytes)

-- Reading: "P is 0, and in a read the twelve bits too."
abbrev pub read_bits : List Bool
read_bits = replicate (top_bit + 1) false

-- Writing: a byte with its check.
abbrev pub write_bits : ℕ → List Bool
write_bits v = bits (top_bit + 1) (word data_bits v)

-- Request 07: a command's columns behind its header: S, zeros up to EX, and EX as asked.
abbrev pub command_columns : (ids : ℕ) → (execute : Bool) → List Bool
command_columns ids execute = true ∷ (replicate (execute_column ids - 1) false ++ execute ∷ [])

-- The frame of a request; R = 1, W = 0 reads, R = 0, W = 1 writes.
unfoldable pub frame_of : Request → List Bool
frame_of (read id address count wait) = frame_head (access_word id address) ++ true ∷ false ∷ byte_columns false wait 1 (replicate count read_bits)
frame_of (write id address vs wait) = frame_head (access_word id address) ++ false ∷ true ∷ byte_columns true wait 1 (map write_bits vs)
frame_of (command ids cmd execute) = frame_head (command_word ids cmd) ++ command_columns ids execute

-- "A row is fourteen zeros and one frame."
unfoldable pub row_for : Request → List Bool
row_for r = replicate rest_zeros false ++ frame_of r
