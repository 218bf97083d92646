-- The number loses nothing: an end that has room in its code is read back from it. (The end of every call has: Room.) So too the number of a
-- channel: two channels of one number are the same. Assumes nothing.
use mathlib.Core.Path.{◌≡◌, refl, sym, ap, ◌∙◌}
use Prim.Native.Nat.{ℕ, zero, suc, ◌+◌, ◌-◌, ◌*◌, ◌/◌, ◌%◌, ◌^◌, ◌≤◌, ◌<◌, min}
use native.Mathlib.Omega.{arith}
use borrow.Author.Tests.{lt-ltb, le-ltb, ltb-true, ltb-false}
use lib.Dec.{ltb}
use Rattle.std.specs.Prelude.{Option, Some, None, Result, Ok, Err}
use Rattle.protocol.specs.Limits.{slave_limit, id_count}
use Rattle.laws.proofs.Every.{tested}
use Rattle.job.specs.Refusals.{alone, on_line, of_job, refusal, number, Ending, made, refused, told}
use Rattle.job.specs.declared.Reason.{Reason}
use Rattle.job.specs.declared.Refusal as Returned
use Rattle.job.proofs.Refusals.{one_reason}
use Rattle.channels.specs.Channel.{channel_of}
use Rattle.channels.specs.declared.SlaveId.{SlaveId}
use Rattle.channels.specs.declared.ChannelPlace.{ChannelPlace}
use Rattle.biss.specs.Coded.{code, decode_line, decode_detail, decode, Fits, channel_code, Coded}

-- A line that is told counts from 1, so that it is read as one.
line_read : (line byte : ℕ) → 1 ≤ line → decode_line line byte ≡ on_line line byte
line_read zero byte h = absurd (omega arith)
line_read (suc line) byte h = refl

pub decode_code : (e : Ending) → Fits e → decode (code e) ≡ e
unfolding code decode decode_detail
decode_code (made n) h = rw (lt-ltb n (2 ^ 63) h)
decode_code (refused (refusal k alone)) h =
    let n : ℕ = 2 ^ 63 + k in
    let line : n / 2 ^ 9 % 2 ^ 53 ≡ 0 = omega arith in
    let number : n % 2 ^ 6 ≡ k = omega arith in
    rw (le-ltb n (2 ^ 63) (omega arith), lt-ltb n (2 ^ 63 + 2 ^ 62) (omega arith), line, number)
decode_code (refused (refusal k (on_line l b))) h =
    let whole : min l (2 ^ 53 - 1) ≡ l = omega arith in
    let n : ℕ = 2 ^ 63 + 2 ^ 9 * l + 2 ^ 6 * b + k in
    let line : n / 2 ^ 9 % 2 ^ 53 ≡ l = omega arith in
    let byte : n / 2 ^ 6 % 2 ^ 3 ≡ b = omega arith in
    let number : n % 2 ^ 6 ≡ k = omega arith in
    rw (whole, le-ltb n (2 ^ 63) (omega arith), lt-ltb n (2 ^ 63 + 2 ^ 62) (omega arith), line, byte, number, line_read l b h.1)
decode_code (refused (refusal k (of_job i))) h =
    let whole : min i (2 ^ 55 - 1) ≡ i = omega arith in
    let n : ℕ = 2 ^ 63 + 2 ^ 62 + 2 ^ 6 * i + k in
    let job : n / 2 ^ 6 % 2 ^ 56 ≡ i = omega arith in
    let number : n % 2 ^ 6 ≡ k = omega arith in
    rw (whole, le-ltb n (2 ^ 63) (omega arith), le-ltb n (2 ^ 63 + 2 ^ 62) (omega arith), job, number)

-- So two ends of one number are the same, and what a call returns is read as the end that its job promises.
code_lossless : (a b : Ending) → Fits a → Fits b → code a ≡ code b → a ≡ b
code_lossless a b h k e = sym (decode_code a h) ∙ ap decode e ∙ decode_code b k

pub decode_call : {returned : ℕ} {Promised : Result ℕ Returned.Refusal → Type 0} (call : Coded returned Promised) → Fits (told call.end)
    → decode returned ≡ told call.end
decode_call call h = ap decode call.coded ∙ decode_code (told call.end) h

-- A channel has its room where its place is not 0, which stands for none, and its refusal as above ..
abbrev Held : Result (Option ChannelPlace) Reason → Type 0
Held (Ok (Some place)) = (0 < place.0) × (place.0 < 2 ^ 63)
Held (Ok None) = Unit {0}
Held (Err reason) = number reason < 2 ^ 6

channel_lossless : (a b : Result (Option ChannelPlace) Reason) → Held a → Held b → channel_code a ≡ channel_code b → a ≡ b
unfolding channel_code code
channel_lossless (Ok (Some p)) (Ok (Some q)) h k e = ap (λ (n : ℕ). Ok (Some (record { 0 = n }))) e
channel_lossless (Ok (Some p)) (Ok None) h k e = absurd (omega arith)
channel_lossless (Ok (Some p)) (Err r) h k e = absurd (omega arith)
channel_lossless (Ok None) (Ok (Some q)) h k e = absurd (omega arith)
channel_lossless (Ok None) (Ok None) h k e = refl
channel_lossless (Ok None) (Err r) h k e = absurd (omega arith)
channel_lossless (Err r) (Ok (Some q)) h k e = absurd (omega arith)
channel_lossless (Err r) (Ok None) h k e = absurd (omega arith)
channel_lossless (Err r) (Err s) h k e = let same : number r ≡ number s = omega arith in ap (λ (x : Reason). Err x) (one_reason r s same)

-- .. as every channel that is returned has.
channel_held : (id : SlaveId) (slaves : ℕ) → Held (channel_of id slaves)
unfolding channel_of
channel_held id slaves =
    tested (ltb slave_limit slaves) (λ long. rw long (omega arith))
    (λ short. rw short
    (tested (ltb (id_count - 1) id.0) (λ high. rw high (omega arith))
    (λ low. rw low
    (tested (ltb id.0 slaves) (λ there. rw there (omega (arith, ltb-true, ltb-false), omega (arith, ltb-true, ltb-false)))
    (λ absent. rw absent tt)))))
