-- The numbers of paper 01 that stand for themselves, each written once; every other file names them.
use Rattle.std.specs.Prelude.{ℕ, ◌+◌}

-- Columns: "A row has 0 to 4,096 columns."
abbrev pub column_limit : ℕ
column_limit = 4096

-- Numbers of refusal, 1: "more than 16 slaves".
abbrev pub slave_limit : ℕ
slave_limit = 16

-- Columns, Rest: "Fourteen CDM zeros in a row end anything, at any place."
abbrev pub rest_zeros : ℕ
rest_zeros = 14

-- Columns, Header: "Fifteen columns after S".
abbrev pub header_columns : ℕ
header_columns = 15

-- Columns, Locks: "slaves past the eighth have none".
abbrev pub id_count : ℕ
id_count = 8

-- Columns, Locks, the house rule for the place: the column after S that answers IDL0.
abbrev pub lock_first : ℕ
lock_first = 1

-- Columns, Locks: the column after S that answers IDL8, eight columns on.
abbrev pub lock_last : ℕ
lock_last = lock_first + id_count

-- Columns: "A slave has 128 registers": 000 addresses them by seven bits.
abbrev pub address_count : ℕ
address_count = 128

-- 000, Bank Selection: banks "with 64 data bytes each that are addressed at 0x00 to 0x3F".
abbrev pub bank_size : ℕ
bank_size = 64

-- 000: "The bank selection (BSEL) byte is mapped to slave address 0x40."
abbrev pub bank_register : ℕ
bank_register = 64

-- Request 05: "1 to 8 banks".
abbrev pub bank_limit : ℕ
bank_limit = 8

-- Columns, P: "fewer than 64 bytes have passed".
abbrev pub byte_limit : ℕ
byte_limit = 64

-- 000: "The 2-bit CMD": "it is possible to trigger 4 different commands".
abbrev pub command_count : ℕ
command_count = 4

-- Request 07: the column after a command's S that answers IDA0: S's own. 000, Figure 33: S, "7 Cycles" and EX over IDA0 to IDA7.
abbrev pub acknowledge_first : ℕ
acknowledge_first = 0

-- .. the column after S that holds EX of an addressed command: the one behind IDA7.
abbrev pub execute_addressed : ℕ
execute_addressed = acknowledge_first + id_count

-- .. and of a broadcast. 000, Figure 34: "the BiSS Master directly sends the EX bit following the start bit (S)".
abbrev pub execute_broadcast : ℕ
execute_broadcast = 1
