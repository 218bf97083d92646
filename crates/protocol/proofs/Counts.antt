-- Counts: a list's executions, counted slave by slave and code by code, are what its replay leaves in the counts. Assumes nothing.
use mathlib.Core.Path.{◌≡◌, refl, sym, ap, ap₂, subst, ◌∙◌, fun_ext}
use mathlib.Core.Bool.{Bool, true, false, cond, ◌&&◌}
use mathlib.Core.List.{List, [], ◌∷◌, map}
use Prim.Native.Nat.{ℕ, zero, suc, ◌+◌, ◌*◌, ◌≤◌}
use native.Mathlib.Nat.{zero-add, add-zero, add_assoc, mul-suc}
use native.Mathlib.Omega.{arith}
use borrow.Author.Tests.{eqb-true, ne_eqb}
use lib.Dec.{eqb}
use lib.ListN.{length}
use Rattle.protocol.specs.Limits.{command_count}
use Rattle.protocol.specs.Bits.{num}
use Rattle.protocol.specs.Commands.{codes, concerns_at}
use Rattle.protocol.specs.Memory.{Memory, stored, uncounted, one_more, counted}
use Rattle.protocol.specs.Entries.{Kind, number, is, Event, Entry}
use Rattle.protocol.specs.Pieces.{joined}
use Rattle.protocol.specs.Replay.{stored_at, by_place, counted_at, put, replay, executions_at, executions}
use Rattle.laws.proofs.Every.{Every, either, tested}
use Rattle.protocol.proofs.Words.{num_lt}

-- One more of a code, where the counts are those of a function.
one_more_lem : (f : ℕ → ℕ) (cmd : ℕ) → one_more (map f codes) cmd ≡ map (λ c. f c + num (eqb cmd c)) codes
unfolding one_more
one_more_lem f zero = rw (add-zero (f 1), add-zero (f 2), add-zero (f 3))
one_more_lem f (suc zero) = rw (add-zero (f 0), add-zero (f 2), add-zero (f 3))
one_more_lem f (suc (suc zero)) = rw (add-zero (f 0), add-zero (f 1), add-zero (f 3))
one_more_lem f (suc (suc (suc zero))) = rw (add-zero (f 0), add-zero (f 1), add-zero (f 2))
one_more_lem f (suc (suc (suc (suc n)))) =
    let cmd : ℕ = suc (suc (suc (suc n))) in
    rw (
      ne_eqb cmd 0 (λ e. omega arith),
      ne_eqb cmd 1 (λ e. omega arith),
      ne_eqb cmd 2 (λ e. omega arith),
      ne_eqb cmd 3 (λ e. omega arith),
      add-zero (f 0),
      add-zero (f 1),
      add-zero (f 2),
      add-zero (f 3),
    )

-- The counts of the slaves are those of a function of place and code, the first slave at a place.
abbrev CountedBy : (F : ℕ → ℕ → ℕ) → (place : ℕ) → List Memory → Type 0
CountedBy F place [] = Unit {0}
CountedBy F place (k ∷ ks) = (k.counts ≡ map (F place) codes) × CountedBy F (suc place) ks

-- The same function, said otherwise.
counted_alike : {F G : ℕ → ℕ → ℕ} (ks : List Memory) → ((place cmd : ℕ) → F place cmd ≡ G place cmd) → CountedBy F 0 ks → CountedBy G 0 ks
counted_alike ks h cs = subst (λ F. CountedBy F 0 ks) (fun_ext (λ place. fun_ext (λ cmd. h place cmd))) cs

-- A store counts nothing.
counted_stored : (F : ℕ → ℕ → ℕ) (place : ℕ) (ks : List Memory) (id address v : ℕ) → CountedBy F place ks
    → CountedBy F place (stored_at ks id address v)
unfolding stored_at stored
counted_stored F place [] id address v cs = tt
counted_stored F place (k ∷ ks) zero address v cs = cs
counted_stored F place (k ∷ ks) (suc id) address v cs = (cs.0, counted_stored F (suc place) ks id address v cs.1)

-- An execution counts once for each slave that it concerns.
counted_one : (f : ℕ → ℕ) (cmd : ℕ) (k : Memory) → k.counts ≡ map f codes → (b : Bool)
    → (cond b (counted k cmd) k).counts ≡ map (λ c. f c + num (b && eqb cmd c)) codes
unfolding counted
counted_one f cmd k e true = ap (λ (l : List ℕ). one_more l cmd) e ∙ one_more_lem f cmd
counted_one f cmd k e false = e ∙ ap (λ (g : ℕ → ℕ). map g codes) (fun_ext (λ c. sym (add-zero (f c))))

counted_executed : (F : ℕ → ℕ → ℕ) (ids cmd place : ℕ) (ks : List Memory) → CountedBy F place ks
    → CountedBy (λ p c. F p c + num (concerns_at ids p && eqb cmd c)) place (by_place (counted_at ids cmd) place ks)
unfolding by_place
counted_executed F ids cmd place [] cs = tt
counted_executed F ids cmd place (k ∷ ks) cs =
    (counted_one (F place) cmd k cs.0 (concerns_at ids place), counted_executed F ids cmd (suc place) ks cs.1)

-- So an event adds what it counts ..
counted_put : (F : ℕ → ℕ → ℕ) (ks : List Memory) (e : Event) → CountedBy F 0 ks
    → CountedBy (λ p c. F p c + num (is Kind.executed e && (concerns_at e.value p && eqb e.id c))) 0 (put ks e)
unfolding put
counted_put F ks e cs =
    tested (is Kind.written e)
    (λ w. let other : number e.kind ≡ number Kind.written = eqb-true _ _ w in
    rw other (counted_alike (stored_at ks e.id e.address e.value) (λ p c. sym (add-zero (F p c))) (counted_stored F 0 ks e.id e.address e.value cs)))
    (λ w. tested (is Kind.executed e)
    (λ x. rw (w, x) (counted_executed F e.value e.id 0 ks cs))
    (λ x. rw (w, x) (counted_alike ks (λ p c. sym (add-zero (F p c))) cs)))

-- .. and a replay what its entries count.
counted_replayed : (F : ℕ → ℕ → ℕ) (ks : List Memory) (es : List Entry) → CountedBy F 0 ks
    → CountedBy (λ p c. F p c + executions_at p c es) 0 (replay ks es)
unfolding replay executions_at
counted_replayed F ks [] cs = counted_alike ks (λ p c. sym (add-zero (F p c))) cs
counted_replayed F ks (e ∷ es) cs =
    let G : ℕ → ℕ → ℕ = λ p c. F p c + num (is Kind.executed e.event && (concerns_at e.event.value p && eqb e.event.id c)) in
    counted_alike {F = λ p c. G p c + executions_at p c es} (replay (put ks e.event) es) (λ p c. add_assoc (F p c) _ (executions_at p c es))
    (counted_replayed G (put ks e.event) es (counted_put F ks e.event cs))

-- From counts of 0: what the slaves are left with is the table of the list's executions.
abbrev pub Uncounted : Memory → Type 0
Uncounted k = k.counts ≡ uncounted

from_none : (place : ℕ) (ks : List Memory) → Every Uncounted ks → CountedBy (λ p c. 0) place ks
from_none place [] hs = tt
from_none place (k ∷ ks) hs = (hs.0, from_none (suc place) ks hs.1)

tabled : (es : List Entry) (place : ℕ) (ks : List Memory) → CountedBy (λ p c. executions_at p c es) place ks
    → map (λ k. k.counts) ks ≡ executions (length ks) place es
unfolding executions
tabled es place [] cs = refl
tabled es place (k ∷ ks) cs = ap₂ (λ (x : List ℕ) (xs : List (List ℕ)). x ∷ xs) cs.0 (tabled es (suc place) ks cs.1)

length_stored : (ks : List Memory) (id address v : ℕ) → length (stored_at ks id address v) ≡ length ks
unfolding stored_at
length_stored [] id address v = refl
length_stored (k ∷ ks) zero address v = refl
length_stored (k ∷ ks) (suc id) address v = ap suc (length_stored ks id address v)

length_by_place : (change : ℕ → Memory → Memory) (i : ℕ) (ks : List Memory) → length (by_place change i ks) ≡ length ks
unfolding by_place
length_by_place change i [] = refl
length_by_place change i (k ∷ ks) = ap suc (length_by_place change (suc i) ks)

length_replayed : (ks : List Memory) (es : List Entry) → length (replay ks es) ≡ length ks
unfolding replay put
length_replayed ks [] = refl
length_replayed ks (e ∷ es) =
    length_replayed (put ks e.event) es
    ∙ either (λ (l : List Memory). length l ≡ length ks) (is Kind.written e.event)
    (length_stored ks e.event.id e.event.address e.event.value)
    (either (λ (l : List Memory). length l ≡ length ks) (is Kind.executed e.event)
    (length_by_place (counted_at e.event.value e.event.id) 0 ks) refl)

pub replayed_table : (ks : List Memory) (es : List Entry) → Every Uncounted ks
    → map (λ k. k.counts) (replay ks es) ≡ executions (length ks) 0 es
replayed_table ks es hs =
    rw (length_replayed ks es)
    at (tabled es 0 (replay ks es)
    (counted_alike (replay ks es) (λ p c. zero-add (executions_at p c es)) (counted_replayed (λ p c. 0) ks es (from_none 0 ks hs))))

-- Four counts a slave ..
pub executions_long : (slaves place : ℕ) (es : List Entry) → length (joined (executions slaves place es)) ≡ command_count * slaves
unfolding executions joined
executions_long zero place es = refl
executions_long (suc n) place es = rw (mul-suc, executions_long n (suc place) es) (omega arith)

-- .. and none is above the number of entries.
few : (place cmd limit : ℕ) (es : List Entry) → length es ≤ limit → executions_at place cmd es ≤ limit
unfolding executions_at
few place cmd limit [] h = omega arith
few place cmd zero (e ∷ es) h = absurd (omega arith)
few place cmd (suc limit) (e ∷ es) h =
    omega (arith, num_lt (is Kind.executed e.event && (concerns_at e.event.value place && eqb e.event.id cmd)), few place cmd limit es (omega arith))

pub executions_few : (slaves place limit : ℕ) (es : List Entry) → length es ≤ limit
    → Every (λ n. n ≤ limit) (joined (executions slaves place es))
unfolding executions joined
executions_few zero place limit es h = tt
executions_few (suc n) place limit es h =
    (few place 0 limit es h, (few place 1 limit es h, (few place 2 limit es h, (few place 3 limit es h, executions_few n (suc place) limit es h))))
