-- Steps of a rule that touch no object, and reads that may be left out.
use Rattle.std.proofs.Common.{zero, suc, add-one, ◌≡◌, ℕ, ◌+◌, ◌<◌, ◌≤◌, pos, Bool, true, false, nat_lt, nat_le, List, [], Option, Some, None, Result, Ok, Err, IsTrue, refl, sym, ◌∙◌, ap, subst, arith}
use Rattle.std.specs.Prelude.{if◌then◌else◌}
use borrow.Author.Tests.{ltb-true, ltb-false}
use Rattle.std.specs.List.{list_all}
use Rattle.long_names.specs.declared.value.Value.{Value}
use Rattle.long_names.specs.declared.value.Value.TheVariants.{Int}
use Rattle.long_names.specs.Thin.{IsThinner}
use Rattle.long_names.proofs.ThinLemmas.{IsThinner-refl, IsThinner-trans}
use Rattle.object_memory.specs.Told.{Told, IsReady}
use Rattle.object_memory.specs.Contract.{IsLater}
use Rattle.object_memory.specs.Shape.{Looks}
use Rattle.object_memory.proofs.LaterLaws.{SameBounds-refl, IsLater-refl, IsLater-trans, Raised-refl}
use Rattle.object_memory.proofs.LooksLaws.{below_among}
use Rattle.blue_model.specs.declared.cause.Cause.{Cause}
use Rattle.blue_model.specs.declared.cpu.Cpu.{Cpu}
use Rattle.blue_model.specs.Machine.{Machine, Outcome, Go, Halt, Spent, Rule, then_do, ◌>>=◌, done, halt, given, pick, register, clear, numbers, set_numbers, times, each}
use Rattle.long_names.specs.declared.limits.TheConstants.{MACHINE_REGISTERS}
use Rattle.contexts.specs.declared.stop.Stop.{Stop}
use Rattle.contexts.specs.declared.stop.Stop.TheVariants.{Stuck}
use Rattle.contexts.specs.Cache.{IsSound}
use Rattle.contexts.specs.Serves.{Stands, IsGo, Gives, GivesAs, IsCounted, with_before, ServesAs, Serves}
use Rattle.contexts.proofs.ServesLaws.{fits_later, IsCounted-refl, IsCounted-trans, counts_trans, HasReason-earlier, says_later, says_quietly, Gives-after, gives_later, serves_then, serves_stop, serves_exit}

-- ---- ends of a rule

pub done_serves : {A : Type 0} {w : Option A} {t : Told} {cpu : Cpu} {a : A} → IsReady t → ServesAs w t cpu t cpu (done a) (Ok a)
unfolding done
done_serves {A} {w} {t} {cpu} {a} r = record { later = IsLater-refl t; ready = r; reason = tt; counts = (0, IsCounted-refl t); vault = λ may. may; silent = says_quietly w t t (Ok a) (λ speaks. refl); model = λ told m st. (refl, st) }

-- a register that was carried over later calls has the value
pub done_same : {A : Type 0} {w : Option A} {t : Told} {cpu : Cpu} {a b : A} → b ≡ a → IsReady t → ServesAs w t cpu t cpu (done a) (Ok b)
done_same {A} {w} {t} {cpu} {a} {b} e ready = subst (λ x. ServesAs w t cpu t cpu (done a) (Ok x)) (sym e) (done_serves ready)

pub halt_serves : {A : Type 0} {w : Option A} {t : Told} {cpu : Cpu} {c : Cause} → ServesAs w t cpu t cpu (halt c) (Err (Stuck c))
unfolding halt
halt_serves {A} {w} {t} {cpu} {c} = record { later = IsLater-refl t; ready = tt; reason = tt; counts = tt; vault = tt; silent = says_quietly w t t (Err (Stuck c)) (λ speaks. refl); model = λ told m st. refl }

-- ---- registers and numbers

pub register_then : {B : Type 0} {w : Option B} {t new : Told} {cpu now : Cpu} (r : ℕ) (k : Value → Rule B) {answer : Result B Stop} → nat_lt r MACHINE_REGISTERS ≡ true → ServesAs w t cpu new now (k (t.regs r)) answer → ServesAs w t cpu new now (register r >>= k) answer
unfolding register ◌>>=◌
register_then {B} {w} {t} {new} {cpu} {now} r k {answer} low s = record {
  later = s.later;
  ready = s.ready;
  reason = s.reason;
  counts = s.counts;
  vault = s.vault;
  silent = s.silent;
  model = λ told m st. Gives-after (with_before w t.transcript) new now [] (k (m.regs r) m) answer (subst (λ v. GivesAs (with_before w t.transcript) new now answer (k v m)) (sym (st.regs r (ltb-true r MACHINE_REGISTERS low))) (s.model told m st));
}

-- Registers that a memory cleared. Its own are as it left them.
pub clear_serves : {old new : Told} {cpu : Cpu} (among : ℕ → Bool) → IsReady new → new ≡ (record old { regs = new.regs }) → ((r : ℕ) → r < MACHINE_REGISTERS → new.regs r ≡ (if among r then Int (pos 0) else old.regs r)) → Serves old cpu new cpu (clear among) (Ok tt)
unfolding clear
clear_serves {old} {new} {cpu} among ready e cleared = subst (λ (t : Told). Serves old cpu t cpu (clear among) (Ok tt)) (sym e) (cleared_at new.regs (subst IsReady e ready) cleared)
  where
    cleared_at : (regs : ℕ → Value) → IsReady (record old { regs = regs }) → ((r : ℕ) → r < MACHINE_REGISTERS → regs r ≡ (if among r then Int (pos 0) else old.regs r)) → Serves old cpu (record old { regs = regs }) cpu (clear among) (Ok tt)
    cleared_at regs ready cleared = record {
      later = record { tells = refl; speaks = refl; bounds = SameBounds-refl old.bounds; refusals = omega arith };
      ready = ready;
      reason = tt;
      counts = (0, record { counts = Raised-refl old.bounds; next = λ told. omega arith });
      vault = λ may. may;
      silent = λ speaks. refl;
      model = λ told m st. (
        refl,
        record {
          heap = st.heap;
          regs = λ r low. ap (λ v. if among r then Int (pos 0) else v) (st.regs r low) ∙ sym (cleared r low);
          slots = st.slots;
          numbers = st.numbers;
          fits = st.fits;
          transcript = st.transcript;
          cache = st.cache;
        },
      );
    }

pub numbers_then : {B : Type 0} {w : Option B} {t new : Told} {cpu now : Cpu} (k : Cpu → Rule B) {answer : Result B Stop} → ServesAs w t cpu new now (k cpu) answer → ServesAs w t cpu new now (numbers >>= k) answer
unfolding numbers ◌>>=◌
numbers_then {B} {w} {t} {new} {cpu} {now} k {answer} s = record {
  later = s.later;
  ready = s.ready;
  reason = s.reason;
  counts = s.counts;
  vault = s.vault;
  silent = s.silent;
  model = λ told m st. Gives-after (with_before w t.transcript) new now [] (k m.cpu m) answer (subst (λ n. GivesAs (with_before w t.transcript) new now answer (k n m)) (sym st.numbers) (s.model told m st));
}

-- numbers that don't open the vault
pub set_numbers_serves : {w : Option (Unit {0})} {t : Told} {cpu now : Cpu} → (IsTrue now.vault → IsTrue cpu.vault) → IsReady t → ServesAs w t cpu t now (set_numbers now) (Ok tt)
unfolding set_numbers
set_numbers_serves {w} {t} {cpu} {now} opens r = record {
  later = IsLater-refl t;
  ready = r;
  reason = tt;
  counts = (0, IsCounted-refl t);
  vault = opens;
  silent = says_quietly w t t (Ok tt) (λ speaks. refl);
  model = λ told m st. (refl, record { heap = st.heap; regs = st.regs; slots = st.slots; numbers = refl; transcript = st.transcript; cache = st.cache; fits = st.fits });
}

pub set_numbers_at : {w : Option (Unit {0})} {t : Told} {cpu now : Cpu} (next : Cpu) → now ≡ next → (IsTrue next.vault → IsTrue cpu.vault) → IsReady t → ServesAs w t cpu t now (set_numbers next) (Ok tt)
set_numbers_at {w} {t} {cpu} {now} next e opens ready = subst (λ n. ServesAs w t cpu t n (set_numbers next) (Ok tt)) (sym e) (set_numbers_serves opens ready)

-- ---- values that there may be

pub given_then : {A B : Type 0} {w : Option B} {t new : Told} {cpu now : Cpu} (c : Cause) (o : Option A) (k : A → Rule B) (a : A) {answer : Result B Stop} → (IsTrue t.tells → o ≡ Some a) → ServesAs w t cpu new now (k a) answer → ServesAs w t cpu new now (given c o >>= k) answer
unfolding given done ◌>>=◌
given_then {A} {B} {w} {t} {new} {cpu} {now} c o k a {answer} e s = record {
  later = s.later;
  ready = s.ready;
  reason = s.reason;
  counts = s.counts;
  vault = s.vault;
  silent = s.silent;
  model = λ told m st. (let P : Option A → Type 0 = λ x. GivesAs (with_before w t.transcript) new now answer (then_do (given c x m) k) in subst P (sym (e told)) (Gives-after (with_before w t.transcript) new now [] (k a m) answer (s.model told m st)));
}

pub given_stuck : {A B : Type 0} {w : Option B} {t : Told} {cpu now : Cpu} {c : Cause} (o : Option A) (k : A → Rule B) → (IsTrue t.tells → o ≡ None) → ServesAs w t cpu t now (given c o >>= k) (Err (Stuck c))
unfolding given halt ◌>>=◌
given_stuck {A} {B} {w} {t} {cpu} {now} {c} o k e = record {
  later = IsLater-refl t;
  ready = tt;
  reason = tt;
  counts = tt;
  vault = tt;
  silent = says_quietly w t t (Err (Stuck c)) (λ speaks. refl);
  model = λ told m st. (let P : Option A → Type 0 = λ x. Gives {A = B} t now (Err (Stuck c)) (then_do (given c x m) k) in subst P (sym (e told)) refl);
}

pub given_serves : {A : Type 0} {w : Option A} {t : Told} {cpu : Cpu} (c : Cause) (o : Option A) (a : A) → IsReady t → (IsTrue t.tells → o ≡ Some a) → ServesAs w t cpu t cpu (given c o) (Ok a)
unfolding given done
given_serves {A} {w} {t} {cpu} c o a ready e = record {
  later = IsLater-refl t;
  ready = ready;
  reason = tt;
  counts = (0, IsCounted-refl t);
  vault = λ may. may;
  silent = says_quietly w t t (Ok a) (λ speaks. refl);
  model = λ told m st. (let P : Option A → Type 0 = λ x. Gives t cpu (Ok a) (given c x m) in subst P (sym (e told)) (refl, st));
}

pub given_ends : {A : Type 0} {w : Option A} {t : Told} {cpu : Cpu} (c : Cause) (o : Option A) → (IsTrue t.tells → o ≡ None) → ServesAs w t cpu t cpu (given c o) (Err (Stuck c))
unfolding given halt
given_ends {A} {w} {t} {cpu} c o e = record {
  later = IsLater-refl t;
  ready = tt;
  reason = tt;
  counts = tt;
  vault = tt;
  silent = says_quietly w t t (Err (Stuck c)) (λ speaks. refl);
  model = λ told m st. (let P : Option A → Type 0 = λ x. Gives {A = A} t cpu (Err (Stuck c)) (given c x m) in subst P (sym (e told)) refl);
}

-- ---- choices

pub pick_true : {A : Type 0} {w : Option A} {t new : Told} {cpu now : Cpu} (b : Bool) (p q : Rule A) {answer : Result A Stop} → b ≡ true → ServesAs w t cpu new now p answer → ServesAs w t cpu new now (pick b p q) answer
unfolding pick
pick_true {A} {w} {t} {new} {cpu} {now} b p q {answer} e s = subst (λ x. ServesAs w t cpu new now (pick x p q) answer) (sym e) s

pub pick_false : {A : Type 0} {w : Option A} {t new : Told} {cpu now : Cpu} (b : Bool) (p q : Rule A) {answer : Result A Stop} → b ≡ false → ServesAs w t cpu new now q answer → ServesAs w t cpu new now (pick b p q) answer
unfolding pick
pick_false {A} {w} {t} {new} {cpu} {now} b p q {answer} e s = subst (λ x. ServesAs w t cpu new now (pick x p q) answer) (sym e) s

-- The same for `search`, which follows an arm that has calls in it only where the arm's premise stands under the test.
pub pick_by_true : {A : Type 0} {w : Option A} {t new : Told} {cpu now : Cpu} (b : Bool) (p q : Rule A) {answer : Result A Stop} → b ≡ true → (b ≡ true → ServesAs w t cpu new now p answer) → ServesAs w t cpu new now (pick b p q) answer
pick_by_true b p q e s = pick_true b p q e (s e)

pub pick_by_false : {A : Type 0} {w : Option A} {t new : Told} {cpu now : Cpu} (b : Bool) (p q : Rule A) {answer : Result A Stop} → b ≡ false → (b ≡ false → ServesAs w t cpu new now q answer) → ServesAs w t cpu new now (pick b p q) answer
pick_by_false b p q e s = pick_false b p q e (s e)

-- the laws by which a rule is followed
pub ruleset serving = (register_then, numbers_then, serves_then, serves_stop, serves_exit, pick_true, pick_false, pick_by_true, pick_by_false, set_numbers_at, done_serves, halt_serves)

-- ---- loops

pub times_none : {t : Told} {cpu : Cpu} (p : Rule (Unit {0})) → IsReady t → Serves t cpu t cpu (times 0 p) (Ok tt)
unfolding times
times_none p ready = done_serves ready

pub times_more : {old mid new : Told} {cpu between now : Cpu} (n : ℕ) (p : Rule (Unit {0})) {answer : Result (Unit {0}) Stop} → Serves old cpu mid between (times n p) (Ok tt) → Serves mid between new now p answer → Serves old cpu new now (times (n + 1) p) answer
unfolding times
times_more {old} {mid} {new} {cpu} {between} {now} n p {answer} s f = subst (λ k. Serves old cpu new now (times k p) answer) (sym (add-one n)) (serves_then (λ _. p) s f)

pub times_stop : {old new : Told} {cpu now : Cpu} (k n : ℕ) (p : Rule (Unit {0})) {e : Stop} → k ≤ n → Serves old cpu new now (times k p) (Err e) → Serves old cpu new now (times n p) (Err e)
unfolding times
times_stop {old} {new} {cpu} {now} k zero p {e} le s = let same : k ≡ 0 = omega arith in subst (λ x. Serves old cpu new now (times x p) (Err e)) same s
times_stop {old} {new} {cpu} {now} k (suc n) p {e} le s = go (nat_lt n k) refl (λ below. times_stop {old = old} {new = new} {cpu = cpu} {now = now} k n p {e = e} below s)
  where
    go : (b : Bool) → nat_lt n k ≡ b → (k ≤ n → Serves old cpu new now (times n p) (Err e)) → Serves old cpu new now (times (suc n) p) (Err e)
    go true f next = let above = ltb-true n k f in let same : k ≡ suc n = omega arith in subst (λ x. Serves old cpu new now (times x p) (Err e)) same s
    go false f next = serves_stop (λ _. p) (next (ltb-false n k f))

pub each_none : {t : Told} {cpu : Cpu} (p : ℕ → Rule (Unit {0})) → IsReady t → Serves t cpu t cpu (each p 0) (Ok tt)
unfolding each
each_none p ready = done_serves ready

pub each_more : {old mid new : Told} {cpu between now : Cpu} (p : ℕ → Rule (Unit {0})) (n : ℕ) {answer : Result (Unit {0}) Stop} → Serves old cpu mid between (each p n) (Ok tt) → Serves mid between new now (p n) answer → Serves old cpu new now (each p (n + 1)) answer
unfolding each
each_more {old} {mid} {new} {cpu} {between} {now} p n {answer} s f = subst (λ k. Serves old cpu new now (each p k) answer) (sym (add-one n)) (serves_then (λ _. p n) s f)

pub each_stop : {old new : Told} {cpu now : Cpu} (p : ℕ → Rule (Unit {0})) (k n : ℕ) {e : Stop} → k ≤ n → Serves old cpu new now (each p k) (Err e) → Serves old cpu new now (each p n) (Err e)
unfolding each
each_stop {old} {new} {cpu} {now} p k zero {e} le s = let same : k ≡ 0 = omega arith in subst (λ x. Serves old cpu new now (each p x) (Err e)) same s
each_stop {old} {new} {cpu} {now} p k (suc n) {e} le s = go (nat_lt n k) refl (λ below. each_stop {old = old} {new = new} {cpu = cpu} {now = now} p k n {e = e} below s)
  where
    go : (b : Bool) → nat_lt n k ≡ b → (k ≤ n → Serves old cpu new now (each p n) (Err e)) → Serves old cpu new now (each p (suc n)) (Err e)
    go true f next = let above = ltb-true n k f in let same : k ≡ suc n = omega arith in subst (λ x. Serves old cpu new now (each p x) (Err e)) same s
    go false f next = serves_stop (λ _. p n) (next (ltb-false n k f))

-- ---- reads

-- what was done read, and left the machine's registers, the slots and the transcript
pub record IsQuiet (old new : Told) : Type 0 where
  pub later : IsLater old new
  pub regs : (r : ℕ) → r < MACHINE_REGISTERS → new.regs r ≡ old.regs r
  pub slots : new.slots ≡ old.slots
  pub heap : IsTrue old.tells → IsThinner old.heap new.heap
  pub ready : IsReady new
  pub counts : IsCounted 0 old new
  pub silent : IsTrue old.speaks → new.transcript ≡ old.transcript
  pub sound : IsReady old → IsTrue old.tells → IsSound old.heap old.cache → IsSound new.heap new.cache

pub IsQuiet-refl : (t : Told) → IsReady t → IsQuiet t t
IsQuiet-refl t ready = record {
  later = IsLater-refl t;
  regs = λ r low. refl;
  slots = refl;
  heap = λ told. IsThinner-refl t.heap;
  ready = ready;
  counts = IsCounted-refl t;
  silent = λ speaks. refl;
  sound = λ ready told s. s;
}

pub IsQuiet-trans : (a b c : Told) → IsQuiet a b → IsQuiet b c → IsQuiet a c
IsQuiet-trans a b c x y = record {
  later = IsLater-trans a b c x.later y.later;
  regs = λ r low. y.regs r low ∙ x.regs r low;
  slots = y.slots ∙ x.slots;
  heap = λ told. (let now = x.later.tells ∙ told in IsThinner-trans a.heap b.heap c.heap (x.heap told) (y.heap now) (x.ready.whole now).closed);
  ready = y.ready;
  counts = IsCounted-trans 0 0 a b c x.later x.counts y.counts;
  silent = λ speaks. y.silent (x.later.speaks ∙ speaks) ∙ x.silent speaks;
  sound = λ ready told s. y.sound x.ready (x.later.tells ∙ told) (x.sound ready told s);
}

-- reads that filled none of the machine's registers, where the cache stays sound
pub quiet_looked : (xs : List ℕ) (old new : Told) → list_all (λ r. nat_le MACHINE_REGISTERS r) xs ≡ true → IsReady new → Looks xs old new → (IsTrue old.tells → IsSound old.heap old.cache → IsSound new.heap new.cache) → IsQuiet old new
quiet_looked xs old new above ready x stays = record {
  later = x.later;
  regs = λ r low. x.regs r (below_among MACHINE_REGISTERS xs r low above);
  slots = x.slots;
  heap = x.heap;
  ready = ready;
  counts = record { counts = x.counts; next = λ told. (let same = (x.heap told).next in omega arith) };
  silent = x.transcript;
  sound = λ ready told s. stays told s;
}

-- it stands for the same machines
pub stands_quietly : (old new : Told) (cpu : Cpu) (m : Machine) → IsReady old → IsQuiet old new → IsTrue old.tells → Stands old cpu m → Stands new cpu m
stands_quietly old new cpu m ready q told st = record {
  heap = IsThinner-trans m.heap old.heap new.heap st.heap (q.heap told) (ready.whole told).closed;
  regs = λ r low. st.regs r low ∙ sym (q.regs r low);
  slots = st.slots ∙ sym q.slots;
  numbers = st.numbers;
  fits = fits_later old.bounds new.bounds m.largest q.later.bounds st.fits;
  transcript = λ speaks. (let spoke = sym q.later.speaks ∙ speaks in q.silent spoke ∙ st.transcript spoke);
  cache = q.sound ready told st.cache;
}

pub stands_looked : (xs : List ℕ) (old new : Told) (cpu : Cpu) (m : Machine) → list_all (λ r. nat_le MACHINE_REGISTERS r) xs ≡ true → IsReady old → IsReady new → Looks xs old new → (IsTrue old.tells → IsSound old.heap old.cache → IsSound new.heap new.cache) → IsTrue old.tells → Stands old cpu m → Stands new cpu m
stands_looked xs old new cpu m above before ready x stays told st = stands_quietly old new cpu m before (quiet_looked xs old new above ready x stays) told st

-- reads that were answered may be left out before what serves a rule,
pub read_first : {B : Type 0} {w : Option B} {old mid new : Told} {cpu now : Cpu} {rule : Rule B} {answer : Result B Stop} → IsReady old → IsQuiet old mid → ServesAs w mid cpu new now rule answer → ServesAs w old cpu new now rule answer
read_first {B} {w} {old} {mid} {new} {cpu} {now} {rule} {answer} ready q s = record {
  later = IsLater-trans old mid new q.later s.later;
  ready = s.ready;
  reason = HasReason-earlier old mid new answer q.later (0, q.counts) s.reason;
  counts = counts_trans old mid new answer q.later (0, q.counts) s.counts;
  vault = s.vault;
  silent = says_later w old mid new answer q.later q.silent s.silent;
  model = λ told m st. gives_later w old mid new now answer (rule m) q.later s.later q.silent (s.model (q.later.tells ∙ told) m (stands_quietly old mid cpu m ready q told st));
}

-- and after it,
pub read_last : {B : Type 0} {old mid new : Told} {cpu now : Cpu} {rule : Rule B} {a : B} → Serves old cpu mid now rule (Ok a) → IsQuiet mid new → Serves old cpu new now rule (Ok a)
read_last {B} {old} {mid} {new} {cpu} {now} {rule} {a} s q = record {
  later = IsLater-trans old mid new s.later q.later;
  ready = q.ready;
  reason = tt;
  counts = (s.counts.0 + 0, IsCounted-trans s.counts.0 0 old mid new s.later s.counts.1 q.counts);
  vault = s.vault;
  silent = λ speaks. q.silent (s.later.speaks ∙ speaks) ∙ s.silent speaks;
  model = λ told m st. step (rule m) (s.later.tells ∙ told) (s.model told m st);
}
  where
    step : (o : Outcome B) → IsTrue mid.tells → IsGo a (Stands mid now) o → IsGo a (Stands new now) o
    step (Go b m log) told g = (g.0, stands_quietly mid new now m s.ready q told g.1)
    step (Halt c log) told g = g
    step (Spent log) told g = g

-- also where it was stuck,
pub stuck_last : {B : Type 0} {old mid new : Told} {cpu now : Cpu} {rule : Rule B} {c : Cause} → Serves old cpu mid now rule (Err (Stuck c)) → IsQuiet mid new → Serves old cpu new now rule (Err (Stuck c))
stuck_last {B} {old} {mid} {new} {cpu} {now} {rule} {c} s q = record {
  later = IsLater-trans old mid new s.later q.later;
  ready = tt;
  reason = tt;
  counts = tt;
  vault = tt;
  silent = λ speaks. q.silent (s.later.speaks ∙ speaks) ∙ s.silent speaks;
  model = s.model;
}
