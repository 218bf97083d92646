-- Two runs: chains with the same banks, rights, waits and bank registers whose registers differ only where no read is allowed answer alike.
-- Each slave of the one stands in the state of its twin in the other, and a slave at the S of a read may read there. Assumes nothing.
use mathlib.Core.Path.{◌≡◌, refl, sym, ap, ap₂, subst, ◌∙◌}
use mathlib.Core.Bool.{Bool, true, false, cond, not, ◌&&◌, beq, false≢true}
use mathlib.Core.List.{List, [], ◌∷◌}
use mathlib.Core.Option.{Option, none, some}
use Prim.Native.Nat.{ℕ, zero, suc, ◌+◌, ◌*◌}
use lib.Dec.{ltb, eqb}
use lib.ListN.{length, get_or, set, length-set}
use Rattle.protocol.specs.Limits.{header_columns, lock_last, bank_size}
use Rattle.protocol.specs.Bits.{num, bit, push}
use Rattle.protocol.specs.Rest.{Timed, rest, frame, power_on}
use Rattle.protocol.specs.Machine.{taken}
use Rattle.protocol.specs.Division.{data_bits, fits, byte_of}
use Rattle.protocol.specs.Header.{Header, wrong, access, command, header}
use Rattle.protocol.specs.Commands.{execute_column}
use Rattle.protocol.specs.Memory.{Memory, chosen, place_of, place, at, changed, allows, holds, stored, delay, counted}
use Rattle.protocol.specs.Slave.{Phase, deaf, locks, head, ask_r, ask_w, byte_s, sends, takes, ask_p, acknowledge, ask_ex, Turn, turn, called, more, confirmed, speak, Slave, slave, Step, stepped, step, slave_of}
use Rattle.protocol.specs.Chain.{Passed, pass, column, answers, switched_on}
use Rattle.laws.proofs.Every.{either, Matched}
use Rattle.laws.proofs.Places.{set_like}
use Rattle.protocol.proofs.Memories.{goes_on_lem}
use Rattle.protocol.proofs.Machine.{At, judged}

-- As many banks, the same rights, waits and number in the bank register, as many registers, and the same byte in every register that may be
-- read, wherever it lies; of the others, and of the counts, nothing is asked.
pub record Like (k k' : Memory) : Type 0 where
  pub banks : k.banks ≡ k'.banks
  pub rights : k.rights ≡ k'.rights
  pub delays : (write : Bool) (nth : ℕ) → delay k write nth ≡ delay k' write nth
  pub size : length k.registers ≡ length k'.registers
  pub bank : chosen k ≡ chosen k'
  pub readable : (i : ℕ) → bit (num false) (get_or k.rights i 0) ≡ true → get_or k.registers i 0 ≡ get_or k'.registers i 0

-- As many slaves, each like its twin.
abbrev pub Alike : List Memory → List Memory → Type 0
Alike ks ks' = Matched Like ks ks'

-- What a read may look at; a write looks at nothing.
abbrev Readable : Memory → (write : Bool) → (address : ℕ) → Type 0
Readable k false address = allows k false address ≡ true
Readable k true address = Unit {0}

-- A slave at the S of a read may read there, however often S came.
abbrev Open : Memory → Phase → Type 0
Open k deaf = Unit {0}
Open k (locks column so_far number) = Unit {0}
Open k (head column so_far number) = Unit {0}
Open k (ask_r address) = Unit {0}
Open k (ask_w address r) = Unit {0}
Open k (byte_s write address nth unconfirmed) = Readable k write address
Open k (sends address nth left what) = Unit {0}
Open k (takes address nth left so_far) = Unit {0}
Open k (ask_p write good address nth) = Unit {0}
Open k (acknowledge column ids cmd number) = Unit {0}
Open k (ask_ex cmd concerned) = Unit {0}

-- Both slaves come to the same phase and send the same bit.
data SameTurn : Turn → Turn → Type 0 where
  same : {k k' : Memory} (p : Phase) (x : Bool) → Like k k' → Open k p → SameTurn (turn p x k) (turn p x k')

open_called : (k : Memory) (h : Header) (number : Option ℕ) → Open k (called h number)
unfolding called
open_called k wrong number = tt
open_called k (command ids cmd) number = tt
open_called k (access id address) none = tt
open_called k (access id address) (some i) = either (Open k) (eqb i id) tt tt

-- Accepted: the right allows the access.
readable : (k : Memory) (write : Bool) (address : ℕ) → allows k write address ≡ true → Readable k write address
readable k false address h = h
readable k true address h = tt

-- Their addresses show the same places, so that they allow the same and show the same where a read is allowed.
module _ {k k' : Memory} (l : Like k k') where
  same_place : (address : ℕ) → place k address ≡ place k' address
  same_place address = ap₂ (λ (b c : ℕ). place_of b c address) l.banks l.bank

  like_allows : (write : Bool) (address : ℕ) → allows k write address ≡ allows k' write address
  unfolding allows
  like_allows write address = ap₂ (λ (r : List ℕ) (p : Option ℕ). bit (num write) (at r p)) l.rights (same_place address)

  like_holds : (address : ℕ) → allows k false address ≡ true → holds k address ≡ holds k' address
  unfolding allows holds
  like_holds address h = go (place k address) h ∙ ap (at k'.registers) (same_place address)
    where
      go : (p : Option ℕ) → bit (num false) (at k.rights p) ≡ true → at k.registers p ≡ at k'.registers p
      go none h = refl
      go (some i) h = l.readable i h

-- The same write in both.
like_stored : (k k' : Memory) (address v : ℕ) → Like k k' → Like (stored k address v) (stored k' address v)
unfolding stored chosen delay
like_stored k k' address v l = rw (← same_place l address) (go (place k address))
  where
    go : (p : Option ℕ) → Like (changed k p v) (changed k' p v)
    go none = l
    go (some i) =
        record {
          banks = l.banks;
          rights = l.rights;
          delays = l.delays;
          size = length-set k.registers i v ∙ l.size ∙ sym (length-set k'.registers i v);
          bank =
              set_like k.registers k'.registers i (bank_size * k.banks) v 0 l.size
              (l.bank ∙ ap (λ (b : ℕ). get_or k'.registers (bank_size * b) 0) (sym l.banks))
              ∙ ap (λ (b : ℕ). get_or (set k'.registers i v) (bank_size * b) 0) l.banks;
          readable = λ j h. set_like k.registers k'.registers i j v 0 l.size (l.readable j h);
        }

like_took : (k k' : Memory) (address w : ℕ) → Like k k' → (good : Bool)
    → Like (cond good (stored k address (byte_of w)) k) (cond good (stored k' address (byte_of w)) k')
like_took k k' address w l true = like_stored k k' address (byte_of w) l
like_took k k' address w l false = l

-- No answer hangs on a count.
like_counted : (k k' : Memory) (cmd : ℕ) → Like k k' → (b : Bool) → Like (cond b (counted k cmd) k) (cond b (counted k' cmd) k')
unfolding counted chosen delay
like_counted k k' cmd l true =
    record { banks = l.banks; rights = l.rights; delays = l.delays; size = l.size; bank = l.bank; readable = l.readable }
like_counted k k' cmd l false = l

-- W and P: a slave goes on where its right allows it, and otherwise goes deaf.
decides : (k k' : Memory) (write : Bool) (address nth : ℕ) (x y test : Bool) → Like k k' → (test ≡ true → allows k write address ≡ true)
    → SameTurn (cond test (turn (byte_s write address nth 0) x k) (turn deaf y k)) (cond test (turn (byte_s write address nth 0) x k') (turn deaf y k'))
decides k k' write address nth x y true l h = same (byte_s write address nth 0) x l (readable k write address (h refl))
decides k k' write address nth x y false l h = same deaf y l tt

second : (a b : Bool) → a && b ≡ true → b ≡ true
second true b h = h
second false b h = absurd (false≢true h)

same_more : (k k' : Memory) (write : Bool) (address nth : ℕ) → Like k k' → more k' write address nth ≡ more k write address nth
unfolding more
same_more k k' write address nth l = rw (like_allows l write (address + 1))

-- S is confirmed, or not yet.
same_confirmed : (k k' : Memory) (write : Bool) (address nth : ℕ) → Like k k' → Readable k write address
    → SameTurn (turn (confirmed k write address nth) true k) (turn (confirmed k' write address nth) true k')
same_confirmed k k' false address nth l o = rw (← like_holds l address o) (same _ true l tt)
same_confirmed k k' true address nth l o = same _ true l tt

waits : (k k' : Memory) (write : Bool) (address nth unconfirmed : ℕ) (test : Bool) → Like k k' → Readable k write address
    → SameTurn (cond test (turn (byte_s write address nth (unconfirmed + 1)) false k) (turn (confirmed k write address nth) true k))
    (cond test (turn (byte_s write address nth (unconfirmed + 1)) false k') (turn (confirmed k' write address nth) true k'))
waits k k' write address nth unconfirmed true l o = same _ false l o
waits k k' write address nth unconfirmed false l o = same_confirmed k k' write address nth l o

-- A column does the same to both: only the S of a read looks at a register, and there the slave may read.
same_turn : (k k' : Memory) (p : Phase) (m b : Bool) → Like k k' → Open k p → SameTurn (speak k p m b) (speak k' p m b)
unfolding speak
same_turn k k' deaf m b l o = same deaf b l tt
same_turn k k' (locks column so_far number) m b l o = same _ _ l (either (Open k) (ltb column lock_last) tt tt)
same_turn k k' (head column so_far number) m b l o =
    same _ b l (either (Open k) (ltb column header_columns) tt (open_called k (header (push so_far m)) number))
same_turn k k' (ask_r address) m b l o = same (ask_w address m) m l tt
same_turn k k' (ask_w address r) m b l o =
    rw (← like_allows l m address) (decides k k' m address 1 m (not m) (not (beq r m) && allows k m address) l (second (not (beq r m)) _))
same_turn k k' (byte_s write address nth unconfirmed) false b l o = same deaf false l tt
same_turn k k' (byte_s write address nth unconfirmed) true b l o =
    rw (← l.delays write nth) (waits k k' write address nth unconfirmed (ltb unconfirmed (delay k write nth)) l o)
same_turn k k' (sends address nth zero what) m b l o = same _ _ l tt
same_turn k k' (sends address nth (suc left) what) m b l o = same _ _ l tt
same_turn k k' (takes address nth zero so_far) m b l o =
    same (ask_p true (fits data_bits (push so_far m)) address nth) m
    (like_took k k' address (push so_far m) l (fits data_bits (push so_far m))) tt
same_turn k k' (takes address nth (suc left) so_far) m b l o = same _ m l tt
same_turn k k' (ask_p write good address nth) m b l o =
    rw (same_more k k' write address nth l)
    (decides k k' write (address + 1) (nth + 1) false true (good && more k write address nth) l (λ h. (goes_on_lem k write good address nth h).1))
same_turn k k' (acknowledge zero ids cmd number) false b l o = same deaf b l tt
same_turn k k' (acknowledge zero ids cmd number) true b l o = same _ _ l (either (Open k) (ltb 1 (execute_column ids)) tt tt)
same_turn k k' (acknowledge (suc column) ids cmd number) m b l o =
    same _ _ l (either (Open k) (ltb (suc column + 1) (execute_column ids)) tt tt)
same_turn k k' (ask_ex cmd concerned) m b l o = same deaf b (like_counted k k' cmd l (m && concerned)) tt

-- Twins: one state, and memories that are alike; at power-on and at rest nothing more is asked.
pub data Twin : Slave → Slave → Type 0 where
  twin : {k k' : Memory} (s : Timed Phase) → Like k k' → At (Open k) s → Twin (slave k s) (slave k' s)

record SameStep (t t' : Step) : Type 0 where
  slaves : Twin (slave_of t) (slave_of t')
  sent : t.says.sent ≡ t'.says.sent

same_taken : (z : ℕ) {t t' : Turn} → SameTurn t t' → SameStep (taken z t) (taken z t')
same_taken z (same p x l o) = record { slaves = twin (frame z p) l o; sent = refl }

same_step : {s s' : Slave} → Twin s s' → (m b : Bool) → SameStep (step s m b) (step s' m b)
unfolding step
same_step (twin {k} {k'} s l o) m b =
    judged (Open k) tt (λ j. SameStep (stepped k j m b) (stepped k' j m b))
    (λ r h. record { slaves = twin r l h; sent = refl })
    (record { slaves = twin rest l tt; sent = refl })
    (λ z p h. same_taken z (same_turn k k' p m b l h)) s m o

record SamePass (r r' : Passed) : Type 0 where
  slaves : Matched Twin r.slaves r'.slaves
  answer : r.answer ≡ r'.answer

same_pass : (ss ss' : List Slave) (m b : Bool) → Matched Twin ss ss' → SamePass (pass ss m b) (pass ss' m b)
unfolding pass
same_pass [] [] m b h = record { slaves = tt; answer = refl }
same_pass [] (s' ∷ ss') m b h = absurd h
same_pass (s ∷ ss) [] m b h = absurd h
same_pass (s ∷ ss) (s' ∷ ss') m b h =
    let t : SameStep (step s m b) (step s' m b) = same_step h.0 m b in
    let x : Bool = (step s m b).says.sent in
    let r : SamePass (pass ss m x) (pass ss' m (step s' m b).says.sent)
    = subst (λ y. SamePass (pass ss m x) (pass ss' m y)) t.sent (same_pass ss ss' m x h.1) in
    record { slaves = (t.slaves, r.slaves); answer = r.answer }

pub same_answers : (ss ss' : List Slave) (row : List Bool) → Matched Twin ss ss' → answers ss row ≡ answers ss' row
unfolding answers
same_answers ss ss' [] h = refl
same_answers ss ss' (m ∷ row) h =
    let r : SamePass (column ss m) (column ss' m) = same_pass ss ss' m false h in
    ap₂ (λ (x : Bool) (l : List Bool). x ∷ l) r.answer (same_answers (column ss m).slaves (column ss' m).slaves row r.slaves)

pub twins : (ks ks' : List Memory) → Alike ks ks' → Matched Twin (switched_on ks) (switched_on ks')
unfolding switched_on
twins [] [] h = tt
twins [] (k' ∷ ks') h = absurd h
twins (k ∷ ks) [] h = absurd h
twins (k ∷ ks) (k' ∷ ks') h = (twin power_on h.0 tt, twins ks ks' h.1)
