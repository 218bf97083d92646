-- `intake::fill` meets its contract: one more read is laid behind what was read so far. Assumes nothing.
use Rattle.std.proofs.Common.{rules, ◌≡◌, ◌∙◌, sym, ap, subst, ℕ, ◌+◌, ◌-◌, ◌≤◌, List, ◌++◌, length, take, length-take-le}
use Rattle.std.specs.Io.KnownBytes.{Consumes}
use Rattle.std.proofs.KnownBytes.{Consumes-trans}
use borrow.Rule.Slice.PartMut.{put_mid, post_of}
use lib.Seq.{take-append-le, take-append-add}
use Rattle.intake.proofs.fill.Goals as goal

one_more : (a k n : ℕ) (xs ys : List ℕ) → a ≤ length xs → n ≤ length ys → take (a + n) (put_mid a k xs ys) ≡ take a xs ++ take n ys
one_more a k n xs ys within fits =
    let front = take a xs in
    let long : length front ≡ a = length-take-le a xs within in
    subst (λ (b : ℕ). take (b + n) (front ++ (ys ++ post_of a k xs)) ≡ front ++ take n ys) long
    (take-append-add front (ys ++ post_of a k xs) n ∙ ap (λ (l : List ℕ). front ++ l) (take-append-le n ys (post_of a k xs) fits))

pub loop-done-preserved : goal.loop-done-preserved
loop-done-preserved g c =
    let l = c.loop-done in
    let read = c.in_ok-some.ensures in
    let more = one_more l.done (length l.buf - l.done) c.in_ok-some.some l.buf c.read.new.buf l.invariant.within read.bound.0 in
    record {
      within = search rules;
      long = search rules;
      bytes = subst (Consumes _ _) (sym more) (Consumes-trans _ _ _ _ _ l.invariant.bytes read.bytes.0);
    }
