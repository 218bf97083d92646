-- A slave's registers, rights, waiting number and counts. Every other definition looks at them through allows, holds, stored, delay and
-- counted alone.
--
-- Its registers lie bank after bank, and behind the banks the fixed ones; of one bank the place is the address. Its rights lie alike.
--
--   place    0 .. 63   64 .. 127   ..   64 x banks    64 x banks + 1 ..
--            bank 0    bank 1      ..   BSEL, at 64   65 to 127
use Rattle.std.specs.Prelude.{Bool, cond, ◌&&◌, List, ℕ, ◌+◌, ◌-◌, ◌*◌, ltb, eqb, get_or, set, replicate}
use Rattle.std.proofs.Math.Option.{Option, none, some}
use Rattle.protocol.specs.Limits.{bank_size, bank_register, command_count}
use Rattle.protocol.specs.Bits.{num, bit}

-- "A slave has .. registers and one right for each". Request 05: "1 to 8 banks of 64 bytes .. with rights of their own". Request 03: "Each
-- slave gets a waiting number". Request 07: "a count of executions for each slave and code".
pub record Memory : Type 0 where
  pub banks : ℕ
  pub registers : List ℕ
  pub rights : List ℕ
  pub wait : ℕ
  pub counts : List ℕ

-- Request 05: "the bank register chooses": the number in it.
unfoldable pub chosen : Memory → ℕ
chosen k = get_or k.registers (bank_size * k.banks) 0

-- "addresses 0 to 63 show the chosen bank"; "while the register names no held bank, no access is allowed at 0 to 63".
abbrev pub in_bank : (banks chosen address : ℕ) → Option ℕ
in_bank banks chosen address = cond (ltb chosen banks) (some (bank_size * chosen + address)) none

-- 000: the addresses from 0x40 on are fixed. "If only one bank is implemented, read and write access to BSEL are refused."
abbrev pub in_fixed : (banks address : ℕ) → Option ℕ
in_fixed banks address = cond (eqb address bank_register && eqb banks 1) none (some (bank_size * banks + (address - bank_size)))

-- The place of the register that an address shows, if it shows one ..
unfoldable pub place_of : (banks chosen address : ℕ) → Option ℕ
place_of banks chosen address = cond (ltb address bank_size) (in_bank banks chosen address) (in_fixed banks address)

-- .. in a memory as it stands.
abbrev pub place : Memory → ℕ → Option ℕ
place k address = place_of k.banks (chosen k) address

-- What stands at a place that may be there ..
abbrev pub at : List ℕ → Option ℕ → ℕ
at l none = 0
at l (some i) = get_or l i 0

-- .. and what is there with one place changed.
abbrev pub put_at : List ℕ → Option ℕ → ℕ → List ℕ
put_at l none value = l
put_at l (some i) value = set l i value

-- The memory with one of its places changed; all else stays.
abbrev pub changed : Memory → Option ℕ → ℕ → Memory
changed k p value =
    record { banks = k.banks; registers = put_at k.registers p value; rights = k.rights; wait = k.wait; counts = k.counts }

-- "0 none, 1 read, 2 write, 3 both": the low bit allows a read, the high bit a write. Where no register is shown there is no right.
unfoldable pub allows : Memory → (write : Bool) → ℕ → Bool
allows k write address = bit (num write) (at k.rights (place k address))

-- What stands in a register.
unfoldable pub holds : Memory → ℕ → ℕ
holds k address = at k.registers (place k address)

-- The memory with one register changed.
unfoldable pub stored : Memory → ℕ → ℕ → Memory
stored k address value = changed k (place k address) value

-- Request 03: "Every byte of a read waits; in a write the first byte does not, later ones do." How often the S of byte `nth` of an access,
-- counted from 1, is answered 0, and sent again, before it is confirmed ..
unfoldable pub delay_by : (wait : ℕ) → (write : Bool) → (nth : ℕ) → ℕ
delay_by wait write nth = cond (write && eqb nth 1) 0 wait

-- .. by a slave.
unfoldable pub delay : Memory → (write : Bool) → (nth : ℕ) → ℕ
delay k write nth = delay_by k.wait write nth

-- Request 07: "from 0 in each run".
abbrev pub uncounted : List ℕ
uncounted = replicate command_count 0

-- Counts with one execution more of a code ..
unfoldable pub one_more : (counts : List ℕ) → (cmd : ℕ) → List ℕ
one_more counts cmd = set counts cmd (get_or counts cmd 0 + 1)

-- .. in a memory: "An executed one changes nothing in the chain but its counts".
unfoldable pub counted : Memory → (cmd : ℕ) → Memory
counted k cmd =
    record { banks = k.banks; registers = k.registers; rights = k.rights; wait = k.wait; counts = one_more k.counts cmd }
