-- The bench card's proved set: fifteen cases, each with the value the card gives.
use Rattle.std.specs.Prelude.{Bool, true, false, List, [], ◌∷◌, ◌++◌, map, ℕ, replicate}
use Rattle.protocol.specs.Limits.{rest_zeros, lock_last, address_count}
use Rattle.protocol.specs.Division.{header_bits, data_bits, check}
use Rattle.protocol.specs.Header.{access_word, command_word}
use Rattle.protocol.specs.Memory.{Memory, uncounted}
use Rattle.protocol.specs.Chain.{answers_from}
use Rattle.protocol.specs.Banks.{Banked}
use Rattle.protocol.specs.Reader.{columns, list_from}

-- What the card asks for: a byte's check, an access's or a broadcast's, or the locks of so many slaves.
pub data Question : Type 0 where
  byte : (value : ℕ) → Question
  access : (id address : ℕ) → Question
  broadcast : (cmd : ℕ) → Question
  slaves : (count : ℕ) → Question

-- Fourteen zeros, S and zeros up to IDL8's column.
abbrev pub lock_row : List Bool
lock_row = replicate rest_zeros false ++ true ∷ replicate lock_last false

-- A slave of one bank with nothing in its registers and no rights.
abbrev pub blank : Memory
blank = record { banks = 1; registers = replicate address_count 0; rights = replicate address_count 0; wait = 0; counts = uncounted }

-- The values of a list's entries.
abbrev pub values : List Banked → List ℕ
values es = map (λ e. e.entry.event.value) es

-- What a question gives: check bits, or the value that the reader lists for the chain's locks.
unfoldable pub found : Question → List ℕ
found (byte value) = check data_bits value ∷ []
found (access id address) = check header_bits (access_word id address) ∷ []
found (broadcast cmd) = check header_bits (command_word 0 cmd) ∷ []
found (slaves count) = values (list_from 0 (columns lock_row (answers_from (replicate count blank) lock_row)))

-- A case of the card: a question and its value.
pub record Case : Type 0 where
  pub question : Question
  pub value : ℕ

-- A case by its two parts.
abbrev case : Question → ℕ → Case
case question value = record { question = question; value = value }

-- Bench card: "byte 00 gives F, 01 C, 80 1, FF B, 5A 0. Header: ID 0 address 00 gives 6; ID 0 address 44 D; ID 1 address 41 C; ID 0
-- address 7C 9; ID 7 address 7F 0; broadcast CMD 2 gives 9; broadcast CMD 0 F. Locks: 0 slaves 0, 8 slaves 8, 9 slaves 9."
abbrev pub card : List Case
card =
    case (byte 0x00) 0xF ∷ case (byte 0x01) 0xC ∷ case (byte 0x80) 0x1 ∷ case (byte 0xFF) 0xB ∷ case (byte 0x5A) 0x0
    ∷ case (access 0 0x00) 0x6 ∷ case (access 0 0x44) 0xD ∷ case (access 1 0x41) 0xC ∷ case (access 0 0x7C) 0x9
    ∷ case (access 7 0x7F) 0x0 ∷ case (broadcast 2) 0x9 ∷ case (broadcast 0) 0xF
    ∷ case (slaves 0) 0 ∷ case (slaves 8) 8 ∷ case (slaves 9) 9
    ∷ []
