-- What the fifteen header bits say.
--
--   column after S   1    2 .. 4   5 .. 11    12 .. 15
--   register access  CTS  ID       address    check
--   column after S   1    2 .. 9         10 11   12 .. 15
--   command          CTS  IDS            CMD     check
use Rattle.std.specs.Prelude.{cond, ℕ, ◌+◌, ◌*◌, ◌/◌, ◌%◌, ◌^◌}
use Rattle.protocol.specs.Bits.{bit}
use Rattle.protocol.specs.Division.{header_bits, check_width, fits}

-- Header: "CTS = 1 is a register access: ID (3 bits), address (7)."
abbrev pub access_word : ℕ → ℕ → ℕ
access_word id address = 2 ^ 10 + id * 2 ^ 7 + address

-- Header: "CTS = 0 is a command: IDS (8), CMD (2). Highest bit first. IDS = 0 is a broadcast."
abbrev pub command_word : ℕ → ℕ → ℕ
command_word ids cmd = ids * 2 ^ 2 + cmd

-- What a header may say, or that its check is wrong.
pub data Header : Type 0 where
  wrong : Header
  access : (id address : ℕ) → Header
  command : (ids cmd : ℕ) → Header

-- House rule: "the header's check covers the eleven bits from CTS on" (000 says the same: "considers CTS and the addressing bits").
unfoldable pub header : ℕ → Header
header w =
    let v : ℕ = w / 2 ^ check_width in
    cond (fits header_bits w)
    (cond (bit 10 v) (access (v / 2 ^ 7 % 2 ^ 3) (v % 2 ^ 7)) (command (v / 2 ^ 2 % 2 ^ 8) (v % 2 ^ 2)))
    wrong
