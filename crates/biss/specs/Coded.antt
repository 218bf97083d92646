-- How the end of a call is one number, for C and Rust, and how that is read back. Paper 01, Numbers of refusal: "A refusal returns its
-- number .. and changes no lent byte. Success returns how many columns, bytes or entries were made". So what is told beside the number stands
-- in the same 64 bits:
--
--   bit   63   62   61 .. 9                         8 .. 6      5 .. 0
--         0    how many were made
--         1    0    line, from 1; 0 for none        byte        number
--         1    1    job, from 0                                 number
use Rattle.std.specs.Prelude.{◌≡◌, cond, ℕ, zero, suc, ◌+◌, ◌-◌, ◌*◌, ◌/◌, ◌%◌, ◌^◌, ◌≤◌, ◌<◌, min, ltb, Option, Some, None, Result, Ok, Err}
use Rattle.job.specs.Refusals.{Detail, alone, on_line, of_job, refusal, number, Ending, made, refused, told}
use Rattle.job.specs.declared.Reason.{Reason}
use Rattle.job.specs.declared.Refusal as Returned
use Rattle.channels.specs.declared.ChannelPlace.{ChannelPlace}

-- Each part on its bits; of a line or a job past the last that is told, that one: with any number of a byte it has room in 64 bits.
unfoldable pub code : Ending → ℕ
code (made count) = count
code (refused (refusal number alone)) = 2 ^ 63 + number
code (refused (refusal number (on_line line byte))) = 2 ^ 63 + 2 ^ 9 * min line (2 ^ 53 - 1) + 2 ^ 6 * byte + number
code (refused (refusal number (of_job job))) = 2 ^ 63 + 2 ^ 62 + 2 ^ 6 * min job (2 ^ 55 - 1) + number

-- What is told beside a number, by the bits of the line and the byte: lines count from 1, so that 0 is none ..
abbrev pub decode_line : (line byte : ℕ) → Detail
decode_line zero byte = alone
decode_line (suc line) byte = on_line (suc line) byte

-- .. or, with bit 62, by those of the job ..
unfoldable pub decode_detail : (returned : ℕ) → Detail
decode_detail returned =
    cond (ltb returned (2 ^ 63 + 2 ^ 62)) (decode_line (returned / 2 ^ 9 % 2 ^ 53) (returned / 2 ^ 6 % 2 ^ 3))
    (of_job (returned / 2 ^ 6 % 2 ^ 56))

-- .. and all of it, read back.
unfoldable pub decode : (returned : ℕ) → Ending
decode returned =
    cond (ltb returned (2 ^ 63)) (made returned) (refused (refusal (returned % 2 ^ 6) (decode_detail returned)))

-- What each part of a code has room for.
abbrev pub Fits : Ending → Type 0
Fits (made count) = count < 2 ^ 63
Fits (refused (refusal number alone)) = number < 2 ^ 6
Fits (refused (refusal number (on_line line byte))) = (number < 2 ^ 6) × (1 ≤ line) × (line < 2 ^ 53) × (byte < 2 ^ 3)
Fits (refused (refusal number (of_job job))) = (number < 2 ^ 6) × (job < 2 ^ 55)

-- A channel place counts from 1, so that 0 says that the chain has no slave of that ID; a refusal as of a job.
unfoldable pub channel_code : Result (Option ChannelPlace) Reason → ℕ
channel_code (Ok (Some place)) = place.0
channel_code (Ok None) = 0
channel_code (Err reason) = code (refused (refusal (number reason) alone))

-- The number returned is that of an end that the job promises.
pub record Coded (returned : ℕ) (Promised : Result ℕ Returned.Refusal → Type 0) : Type 0 where
  pub end : Result ℕ Returned.Refusal
  pub coded : returned ≡ code (told end)
  pub promised : Promised end
